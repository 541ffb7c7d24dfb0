-- What choices say of a client's window: behind an entry, and with one more choice.
use Rattle.std.proofs.Common.{◌≡◌, ℕ, suc, ◌+◌, ◌-◌, max, Bool, true, false, ◌&&◌, not, List, [], ◌∷◌, ◌++◌, length, refl, ap, ◌∙◌, sym, arith}
use Rattle.std.specs.Prelude.{Option, Some, None, cond, filter, map, nat_lt, unwrap_or, if◌then◌else◌}
use Rattle.std.specs.List.{list_all}
use Rattle.std.specs.Option.{option_or}
use Rattle.std.proofs.lemmas.Bool.{lt-ltb}
use Rattle.std.proofs.lemmas.List.{length-map}
use Rattle.std.proofs.lemmas.List.Elements.{filter-append}
use Rattle.lload_names.specs.declared.names.Entry.{Entry}
use Rattle.lload_spec.specs.Binding.{Choice, action, is_action, standing_by, with_action}
use Rattle.lload_spec.specs.BindingCalls.{WriteEnded}
use Rattle.lload_spec.specs.ClientCalls.{call_by, hold_of, is_ended_by}
use Rattle.lload_spec.specs.Lists.{agrees, implies}
use Rattle.lload_spec.specs.Operations.{Operation, is_live}
use Rattle.lload_spec.specs.Settings.{Settings, Action, Ignore, Write, BindBackend, BindConnection, Reject, backend_of}
use Rattle.lload_spec.specs.Window.{Standing}
use Rattle.lload_laws.specs.ClientGrowth.{later_operation}
use Rattle.lload_laws.proofs.ClientGrowth.{ending_grows}
use Rattle.lload_laws.proofs.ClientSums.{after_all, later_choice, sum-later, sum-push}
use Rattle.lload_laws.proofs.ListLaws.{all_always, filter-map}
use Rattle.part_laws.proofs.ListLaws.{all_kept}
use Rattle.part_spec.specs.ClientState.{Window, chosen_window}
use Rattle.client_laws.proofs.Matches.{ends_not, filter_agree}
use Rattle.window_laws.proofs.Counts.{bump, number, number_both, number_never, number_one}
use Rattle.window_laws.proofs.Ended.{is_kept_so}

-- the window of what choices say
abbrev pub window_of : Standing → Window
window_of w = record { connection = w.connection; backend = w.backend; write = w.write; write_ended = w.ended }

-- how many of the choices are of live writes with such a number
abbrev pub live_writes : Settings → (ℕ → Bool) → List Choice → ℕ
live_writes s test xs = number (λ x. x.operation.name.k) (λ x. is_live x.operation) test (with_action s Write xs)

-- a window where some write ended at this moment, or none did
abbrev pub ended_window : ℕ → Bool → Window → Window
ended_window at b w = record w { write_ended = if b then max at w.write_ended else w.write_ended }

-- Choices with an entry behind their operations.
module _ (s : Settings) (e : Entry) (kept : ℕ → Bool) (xs : List Choice) (h : list_all (λ x. is_kept_so e kept x.operation) xs ≡ true) where
  writes : List Choice
  writes = with_action s Write xs

  writes_so : list_all (λ x. is_kept_so e kept x.operation) (with_action s Write xs) ≡ true
  writes_so = all_kept (λ x. is_kept_so e kept x.operation) (λ x. is_action Write (action s x.operation.request.rest)) xs h

  live_so : (l n k t : Bool) → implies l (agrees n k) ≡ true → ((l && n) && t) ≡ (l && (k && t))
  live_so false n k t j = refl
  live_so true true true t j = refl
  live_so true false false t j = refl
  live_so true true false t j = absurd (let bad : false ≡ true = j in cc)
  live_so true false true t j = absurd (let bad : false ≡ true = j in cc)

  -- those that are live behind it
  pub writes_later : (test : ℕ → Bool) → live_writes s test (map (later_choice e) xs) ≡ live_writes s (λ k. kept k && test k) xs
  writes_later test =
      ap length (ap (filter (λ x. is_live x.operation && test x.operation.name.k)) (filter-map (λ x. is_action Write (action s x.operation.request.rest)) (later_choice e) xs) ∙ filter-map (λ x. is_live x.operation && test x.operation.name.k) (later_choice e) (with_action s Write xs))
      ∙ length-map (filter (λ x. is_live (later_operation e x.operation) && test x.operation.name.k) (with_action s Write xs)) (later_choice e)
      ∙ ap length (filter_agree (λ x. is_kept_so e kept x.operation) (λ x. is_live (later_operation e x.operation) && test x.operation.name.k) (λ x. is_live x.operation && (kept x.operation.name.k && test x.operation.name.k)) (with_action s Write xs) (λ x k. ap (λ b. b && test x.operation.name.k) (ending_grows x.operation.request x.operation.behind e) ∙ live_so (is_live x.operation) (ends_not e x.operation) (kept x.operation.name.k) (test x.operation.name.k) k) writes_so)

  ended_so : (l n k : Bool) → implies l (agrees n k) ≡ true → (l && not (l && n)) ≡ (l && not k)
  ended_so false n k j = refl
  ended_so true true true j = refl
  ended_so true false false j = refl
  ended_so true true false j = absurd (let bad : false ≡ true = j in cc)
  ended_so true false true j = absurd (let bad : false ≡ true = j in cc)

  -- those that it ends
  ended_writes : length (filter (λ x. is_ended_by e x.operation) (with_action s Write xs)) ≡ live_writes s (λ k. not (kept k)) xs
  ended_writes = ap length (filter_agree (λ x. is_kept_so e kept x.operation) (λ x. is_ended_by e x.operation) (λ x. is_live x.operation && not (kept x.operation.name.k)) (with_action s Write xs) (λ x k. ap (λ b. is_live x.operation && not b) (ending_grows x.operation.request x.operation.behind e) ∙ ended_so (is_live x.operation) (ends_not e x.operation) (kept x.operation.name.k) k) writes_so)

  latest : (at : ℕ) (zs : List Choice) (w : Standing) → window_of (after_all (map (λ x. WriteEnded at) zs) w) ≡ ended_window at (nat_lt 0 (length zs)) (window_of w)
  latest at [] w = refl
  latest at (z ∷ zs) w = latest at zs (record w { live = w.live - 1; ended = max w.ended at }) ∙ (λ i. record (window_of w) { write_ended = once (nat_lt 0 (length zs)) i }) ∙ ap (λ b. ended_window at b (window_of w)) (sym (lt-ltb 0 (suc (length zs)) (omega arith)))
    where
      once : (b : Bool) → (if b then max at (max w.ended at) else max w.ended at) ≡ max at w.ended
      once true = omega arith
      once false = omega arith

  -- the window behind it
  pub window_later : window_of (standing_by s (map (later_choice e) xs)) ≡ ended_window e.at (nat_lt 0 (live_writes s (λ k. not (kept k)) xs)) (window_of (standing_by s xs))
  window_later = ap window_of (sum-later s e xs) ∙ latest e.at (filter (λ x. is_ended_by e x.operation) (with_action s Write xs)) (standing_by s xs) ∙ ap (λ n. ended_window e.at (nat_lt 0 n) (window_of (standing_by s xs))) ended_writes

-- An entry that ends nothing.
module _ (s : Settings) (e : Entry) (none : (o : Operation) → ends_not e o ≡ true) (xs : List Choice) where
  all_kept_so : list_all (λ x. is_kept_so e (λ k. true) x.operation) xs ≡ true
  all_kept_so = all_always (λ x. is_kept_so e (λ k. true) x.operation) xs (λ x. ap (λ b. implies (is_live x.operation) (agrees b true)) (none x.operation) ∙ always (is_live x.operation))
    where
      always : (b : Bool) → implies b true ≡ true
      always true = refl
      always false = refl

  pub window_stays : window_of (standing_by s (map (later_choice e) xs)) ≡ window_of (standing_by s xs)
  window_stays = window_later s e (λ k. true) xs all_kept_so ∙ ap (λ n. ended_window e.at (nat_lt 0 n) (window_of (standing_by s xs))) (number_never (λ x. x.operation.name.k) (λ x. is_live x.operation) (with_action s Write xs))

  pub writes_stay : (test : ℕ → Bool) → live_writes s test (map (later_choice e) xs) ≡ live_writes s test xs
  writes_stay test = writes_later s e (λ k. true) xs all_kept_so test

-- One more choice, of a live operation.
module _ (s : Settings) (xs : List Choice) (x : Choice) (a : Action) (acts : action s x.operation.request.rest ≡ a) (live : is_live x.operation ≡ true) where
  held : (o : Option ℕ) (n : ℕ) → option_or o (Some n) ≡ Some (unwrap_or o n)
  held None n = refl
  held (Some m) n = refl

  one_more : (b : Action) (w : Standing) (u n : ℕ) → window_of (after_all (call_by u n (hold_of b)) w) ≡ chosen_window b u n (window_of w)
  one_more Ignore w u n = refl
  one_more Write w u n = refl
  one_more BindBackend w u n = λ i. record (window_of w) { backend = held w.backend n i }
  one_more BindConnection w u n = λ i. record (window_of w) { connection = held w.connection u i }
  one_more Reject w u n = refl

  pub window_push : window_of (standing_by s (xs ++ x ∷ [])) ≡ chosen_window a x.connection (backend_of s x.connection) (window_of (standing_by s xs))
  window_push = ap window_of (sum-push s xs x a acts live) ∙ one_more a (standing_by s xs) x.connection (backend_of s x.connection)

  pub writes_push : (test : ℕ → Bool) → live_writes s test (xs ++ x ∷ []) ≡ live_writes s test xs + bump (is_action Write a && test x.operation.name.k)
  writes_push test =
      ap (number (λ y. y.operation.name.k) (λ y. is_live y.operation) test) (filter-append (λ y. is_action Write (action s y.operation.request.rest)) xs (x ∷ []))
      ∙ number_both (λ y. y.operation.name.k) (λ y. is_live y.operation) test (with_action s Write xs) (with_action s Write (x ∷ []))
      ∙ ap (λ n. live_writes s test xs + n) (ap (λ b. number (λ y. y.operation.name.k) (λ y. is_live y.operation) test (cond (is_action Write b) (x ∷ []) [])) acts ∙ by (is_action Write a))
    where
      by : (b : Bool) → number (λ y. y.operation.name.k) (λ y. is_live y.operation) test (cond b (x ∷ []) []) ≡ bump (b && test x.operation.name.k)
      by true = number_one (λ y. y.operation.name.k) (λ y. is_live y.operation) test x ∙ ap (λ b. bump (b && test x.operation.name.k)) live
      by false = refl
