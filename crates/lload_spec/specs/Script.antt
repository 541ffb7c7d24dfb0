-- The lines of a script (this project's own): which command a line is.
use Rattle.std.specs.Prelude.{ℕ, ◌+◌, ◌-◌, ◌*◌, ◌^◌, ◌==◌, ◌&&◌, not, nat_lt, nat_le, Bool, false, if◌then◌else◌, List, [], ◌∷◌, Option, Some, None, Ok, Err, codes}
use Rattle.std.specs.List.{list_all}
use Rattle.std.specs.Option.{option_map, option_and_then}
use Rattle.std.specs.Str.{bytes_eq}
use Rattle.hex.specs.Hex.{decode_of}
use Rattle.lload_names.specs.declared.command.Command.{Command}
use Rattle.lload_names.specs.declared.command.Command.TheVariants.{ClientArrives, ClientBytes, ClientLeaves, UpReady, UpBytes, UpLost, Tick, SetWord, Step, StepMessage, StepFrom, StepTick, Settle, ClientStalls, ClientFlows, Reload}
use Rattle.lload_names.specs.declared.names.PartName.{PartName}
use Rattle.lload_names.specs.declared.names.PartName.TheVariants.{Desk, Client, Up}

-- the bytes that are told apart: a space, and the digits 0 and 9
abbrev pub space : ℕ
space = 32

abbrev pub digit_0 : ℕ
digit_0 = 48

abbrev pub digit_9 : ℕ
digit_9 = 57

-- a list of words with this byte in front of the first
abbrev pub onto_first : ℕ → List (List ℕ) → List (List ℕ)
onto_first c [] = (c ∷ []) ∷ []
onto_first c (w ∷ ws) = (c ∷ w) ∷ ws

-- the words of a line: what stands before, between and behind its spaces, so that two spaces have an empty word between
-- them
abbrev pub words : List ℕ → List (List ℕ)
words [] = [] ∷ []
words (c ∷ cs) = if c == space then [] ∷ words cs else onto_first c (words cs)

-- whether a byte is a decimal digit
abbrev pub is_digit : ℕ → Bool
is_digit c = nat_le digit_0 c && nat_le c digit_9

-- whether a word is one or more decimal digits with no zero in front of others
abbrev pub is_decimal : List ℕ → Bool
is_decimal [] = false
is_decimal (c ∷ []) = is_digit c
is_decimal (c ∷ d ∷ ds) = not (c == digit_0) && list_all is_digit (c ∷ d ∷ ds)

-- the number that digits say behind those that say n
abbrev pub digits_value : ℕ → List ℕ → ℕ
digits_value n [] = n
digits_value n (d ∷ ds) = digits_value (10 * n + (d - digit_0)) ds

-- the number that a word says in decimal, from the least to below the limit
abbrev pub number_of : ℕ → ℕ → List ℕ → Option ℕ
number_of least limit w =
    if is_decimal w && nat_le least (digits_value 0 w) && nat_lt (digits_value 0 w) limit then Some (digits_value 0 w)
    else None

-- the number of a client or a connection
abbrev pub part_number : List ℕ → Option ℕ
part_number w = number_of 1 (2 ^ 32) w

-- the bytes that a word says in hexadecimal, with digits of either case; the empty word says none
abbrev pub bytes_of : List ℕ → Option (List ℕ)
bytes_of w = elim (decode_of w) [ Ok bytes ↦ Some bytes | Err e ↦ None ]

-- a part of this kind with the number that the first word says, and the words behind it
abbrev pub numbered : (ℕ → PartName) → List (List ℕ) → Option (PartName × List (List ℕ))
numbered kind [] = None
numbered kind (w ∷ ws) = option_map (λ n. (kind n, ws)) (part_number w)

-- the part that the first words name, `desk`, `client N` or `up N`, and the words behind it
abbrev pub part_of : List (List ℕ) → Option (PartName × List (List ℕ))
part_of [] = None
part_of (w ∷ ws) =
    if bytes_eq w (codes "desk") then Some (Desk, ws)
    else if bytes_eq w (codes "client") then numbered Client ws
    else if bytes_eq w (codes "up") then numbered Up ws
    else None

-- `client N` and then `arrives`, `leaves`, `stalls`, `flows` or `bytes HEX`
abbrev pub client_command : ℕ → List (List ℕ) → Option Command
client_command n (w ∷ []) =
    if bytes_eq w (codes "arrives") then Some (ClientArrives n)
    else if bytes_eq w (codes "leaves") then Some (ClientLeaves n)
    else if bytes_eq w (codes "stalls") then Some (ClientStalls n)
    else if bytes_eq w (codes "flows") then Some (ClientFlows n)
    else None
client_command n (w ∷ h ∷ []) =
    if bytes_eq w (codes "bytes") then option_map (λ bytes. ClientBytes n bytes) (bytes_of h) else None
client_command n _ = None

-- `up N` and then `ready`, `lost` or `bytes HEX`
abbrev pub up_command : ℕ → List (List ℕ) → Option Command
up_command n (w ∷ []) =
    if bytes_eq w (codes "ready") then Some (UpReady n)
    else if bytes_eq w (codes "lost") then Some (UpLost n)
    else None
up_command n (w ∷ h ∷ []) =
    if bytes_eq w (codes "bytes") then option_map (λ bytes. UpBytes n bytes) (bytes_of h) else None
up_command n _ = None

-- what comes from outside to a part; the desk gets nothing so
abbrev pub event_command : PartName × List (List ℕ) → Option Command
event_command (Desk, ws) = None
event_command (Client n, ws) = client_command n ws
event_command (Up n, ws) = up_command n ws

-- a step of a part that takes the first letter of a sender, where nothing stands behind the sender
abbrev pub step_from : PartName → PartName × List (List ℕ) → Option Command
step_from part (sender, []) = Some (StepFrom part sender)
step_from part (sender, w ∷ ws) = None

-- a clock step, which connections alone take
abbrev pub step_tick : PartName → Option Command
step_tick (Up n) = Some (StepTick n)
step_tick _ = None

-- `step PART` and then nothing, `message`, `tick` or `from PART`
abbrev pub step_command : PartName × List (List ℕ) → Option Command
step_command (part, []) = Some (Step part)
step_command (part, w ∷ []) =
    if bytes_eq w (codes "message") then Some (StepMessage part)
    else if bytes_eq w (codes "tick") then step_tick part
    else None
step_command (part, w ∷ v ∷ ws) =
    if bytes_eq w (codes "from") then option_and_then (step_from part) (part_of (v ∷ ws)) else None

-- a number alone, and what it makes
abbrev pub of_number : (ℕ → Command) → ℕ → List (List ℕ) → Option Command
of_number make limit (w ∷ []) = option_map make (number_of 0 limit w)
of_number make limit _ = None

-- a command of one word alone
abbrev pub alone : Command → List (List ℕ) → Option Command
alone command [] = Some command
alone command (w ∷ ws) = None

-- the command that the words are
abbrev pub command_of_words : List (List ℕ) → Option Command
command_of_words [] = None
command_of_words (w ∷ ws) =
    if bytes_eq w (codes "settle") then alone Settle ws
    else if bytes_eq w (codes "reload") then alone Reload ws
    else if bytes_eq w (codes "tick") then of_number (λ ms. Tick ms) (2 ^ 32) ws
    else if bytes_eq w (codes "word") then of_number (λ n. SetWord n) (2 ^ 64) ws
    else if bytes_eq w (codes "step") then option_and_then step_command (part_of ws)
    else option_and_then event_command (part_of (w ∷ ws))

-- the command that the line is, without its end
abbrev pub command_of : List ℕ → Option Command
command_of line = command_of_words (words line)
