-- What a window comes to behind one call more.
use Rattle.std.proofs.Common.{◌≡◌, ℕ, ◌+◌, ◌-◌, max, List, [], ◌∷◌, ◌++◌, Option, Some, None, ℤ, add-zero, unwrap_or, arith, refl, ap, sym, ◌∙◌}
use Rattle.std.specs.List.{filter_map, last_or}
use Rattle.std.proofs.lemmas.List.Elements.{filter_map-append}
use Rattle.lload_names.specs.declared.names.Hold.{Hold}
use Rattle.lload_names.specs.declared.names.Hold.TheVariants as hold
use Rattle.lload_spec.specs.Lists.{first}
use Rattle.lload_spec.specs.BindingCalls.{Call, Chosen, WriteEnded, Reset, since_reset, live_writes, latest, standing, write_end, held_connection, held_backend, written_backend}

since-ended : (before : List Call) (at : ℕ) (cs : List Call) → since_reset before (cs ++ WriteEnded at ∷ []) ≡ since_reset before cs ++ WriteEnded at ∷ []
since-ended before at [] = refl
since-ended before at (Reset ∷ cs) = since-ended [] at cs
since-ended before at (Chosen h n b ∷ cs) = since-ended (before ++ Chosen h n b ∷ []) at cs
since-ended before at (WriteEnded t ∷ cs) = since-ended (before ++ WriteEnded t ∷ []) at cs

live-ended : (n at : ℕ) (cs : List Call) → live_writes n (cs ++ WriteEnded at ∷ []) ≡ live_writes n cs - 1
live-ended n at [] = refl
live-ended n at (Reset ∷ cs) = live-ended 0 at cs
live-ended n at (Chosen hold.Write u b ∷ cs) = live-ended (n + 1) at cs
live-ended n at (Chosen hold.Backend u b ∷ cs) = live-ended n at cs
live-ended n at (Chosen hold.Connection u b ∷ cs) = live-ended n at cs
live-ended n at (WriteEnded t ∷ cs) = live-ended (n - 1) at cs

latest-end : (x : ℕ) (xs : List ℕ) → latest (xs ++ x ∷ []) ≡ max x (latest xs)
latest-end x [] = refl
latest-end x (y ∷ xs) = let ih = latest-end x xs in omega (arith, ih)

since-chosen : (before : List Call) (h : Hold) (n b : ℕ) (cs : List Call) → since_reset before (cs ++ Chosen h n b ∷ []) ≡ since_reset before cs ++ Chosen h n b ∷ []
since-chosen before h n b [] = refl
since-chosen before h n b (Reset ∷ cs) = since-chosen [] h n b cs
since-chosen before h n b (Chosen i m a ∷ cs) = since-chosen (before ++ Chosen i m a ∷ []) h n b cs
since-chosen before h n b (WriteEnded t ∷ cs) = since-chosen (before ++ WriteEnded t ∷ []) h n b cs

since-reset : (before cs : List Call) → since_reset before (cs ++ Reset ∷ []) ≡ []
since-reset before [] = refl
since-reset before (Reset ∷ cs) = since-reset [] cs
since-reset before (Chosen i m a ∷ cs) = since-reset (before ++ Chosen i m a ∷ []) cs
since-reset before (WriteEnded t ∷ cs) = since-reset (before ++ WriteEnded t ∷ []) cs

live-reset : (n : ℕ) (cs : List Call) → live_writes n (cs ++ Reset ∷ []) ≡ 0
live-reset n [] = refl
live-reset n (Reset ∷ cs) = live-reset 0 cs
live-reset n (Chosen hold.Write u b ∷ cs) = live-reset (n + 1) cs
live-reset n (Chosen hold.Backend u b ∷ cs) = live-reset n cs
live-reset n (Chosen hold.Connection u b ∷ cs) = live-reset n cs
live-reset n (WriteEnded t ∷ cs) = live-reset (n - 1) cs

-- how many writes more a choice makes live
abbrev pub wrote : Hold → ℕ
wrote hold.Write = 1
wrote hold.Backend = 0
wrote hold.Connection = 0

live-chosen : (n : ℕ) (h : Hold) (u b : ℕ) (cs : List Call) → live_writes n (cs ++ Chosen h u b ∷ []) ≡ live_writes n cs + wrote h
live-chosen n hold.Write u b [] = refl
live-chosen n hold.Backend u b [] = omega arith
live-chosen n hold.Connection u b [] = omega arith
live-chosen n h u b (Reset ∷ cs) = live-chosen 0 h u b cs
live-chosen n h u b (Chosen hold.Write m a ∷ cs) = live-chosen (n + 1) h u b cs
live-chosen n h u b (Chosen hold.Backend m a ∷ cs) = live-chosen n h u b cs
live-chosen n h u b (Chosen hold.Connection m a ∷ cs) = live-chosen n h u b cs
live-chosen n h u b (WriteEnded t ∷ cs) = live-chosen (n - 1) h u b cs

append-nil : {A : Type 0} (xs : List A) → xs ++ [] ≡ xs
append-nil [] = refl
append-nil (x ∷ xs) = ap (λ l. x ∷ l) (append-nil xs)

first-end : (x : ℕ) (xs : List ℕ) → first (xs ++ x ∷ []) ≡ Some (unwrap_or (first xs) x)
first-end x [] = refl
first-end x (y ∷ xs) = refl

last-end : (o : Option ℕ) (x : ℕ) (xs : List ℕ) → last_or o (xs ++ x ∷ []) ≡ Some x
last-end o x [] = refl
last-end o x (y ∷ xs) = last-end (Some y) x xs

pub standing-ended : (s : ℤ) (at : ℕ) (cs : List Call) → standing s (cs ++ WriteEnded at ∷ []) ≡ record (standing s cs) { live = (standing s cs).live - 1; ended = max at (standing s cs).ended }
standing-ended s at cs =
    let xs = since_reset [] cs in
    rw (since-ended [] at cs, live-ended 0 at cs, filter_map-append held_connection xs (WriteEnded at ∷ []), filter_map-append held_backend xs (WriteEnded at ∷ []), filter_map-append written_backend xs (WriteEnded at ∷ []), filter_map-append write_end xs (WriteEnded at ∷ []), append-nil (filter_map held_connection xs), append-nil (filter_map held_backend xs), append-nil (filter_map written_backend xs), latest-end at (filter_map write_end xs)) refl

pub standing-reset : (s : ℤ) (cs : List Call) → standing s (cs ++ Reset ∷ []) ≡ standing s []
standing-reset s cs = rw (since-reset [] cs, live-reset 0 cs) refl

pub standing-wrote : (s : ℤ) (n b : ℕ) (cs : List Call) → standing s (cs ++ Chosen hold.Write n b ∷ []) ≡ record (standing s cs) { live = (standing s cs).live + 1; write = Some b }
standing-wrote s n b cs =
    let xs = since_reset [] cs in
    let c = Chosen hold.Write n b in
    rw (since-chosen [] hold.Write n b cs, live-chosen 0 hold.Write n b cs, filter_map-append held_connection xs (c ∷ []), filter_map-append held_backend xs (c ∷ []), filter_map-append written_backend xs (c ∷ []), filter_map-append write_end xs (c ∷ []), append-nil (filter_map held_connection xs), append-nil (filter_map held_backend xs), append-nil (filter_map write_end xs), last-end None b (filter_map written_backend xs)) refl

pub standing-backend : (s : ℤ) (n b : ℕ) (cs : List Call) → standing s (cs ++ Chosen hold.Backend n b ∷ []) ≡ record (standing s cs) { backend = Some (unwrap_or (standing s cs).backend b) }
standing-backend s n b cs =
    let xs = since_reset [] cs in
    let c = Chosen hold.Backend n b in
    rw (since-chosen [] hold.Backend n b cs, live-chosen 0 hold.Backend n b cs, filter_map-append held_connection xs (c ∷ []), filter_map-append held_backend xs (c ∷ []), filter_map-append written_backend xs (c ∷ []), filter_map-append write_end xs (c ∷ []), append-nil (filter_map held_connection xs), append-nil (filter_map written_backend xs), append-nil (filter_map write_end xs), first-end b (filter_map held_backend xs), add-zero (live_writes 0 cs)) refl

pub standing-connection : (s : ℤ) (n b : ℕ) (cs : List Call) → standing s (cs ++ Chosen hold.Connection n b ∷ []) ≡ record (standing s cs) { connection = Some (unwrap_or (standing s cs).connection n) }
standing-connection s n b cs =
    let xs = since_reset [] cs in
    let c = Chosen hold.Connection n b in
    rw (since-chosen [] hold.Connection n b cs, live-chosen 0 hold.Connection n b cs, filter_map-append held_connection xs (c ∷ []), filter_map-append held_backend xs (c ∷ []), filter_map-append written_backend xs (c ∷ []), filter_map-append write_end xs (c ∷ []), append-nil (filter_map held_backend xs), append-nil (filter_map written_backend xs), append-nil (filter_map write_end xs), first-end n (filter_map held_connection xs), add-zero (live_writes 0 cs)) refl
