-- How many rules without a step may follow one another: each makes the weight of the open readings smaller, that is the `frame_weight` of each
-- of them, and what the innermost asks for.
use Rattle.std.specs.Prelude.{ℕ, ◌+◌, ◌<◌, ◌≤◌, ◌≡◌, true, false, List, [], ◌∷◌, ◌++◌}
use Rattle.tex_defs.specs.declared.Token.{Token}
use Rattle.tex_defs.specs.declared.Seen.{Seen}
use Rattle.tex_syntax.specs.declared.words.Report.{Report}
use Rattle.tex_syntax.specs.declared.words.Report.TheVariants.{BadCharacterCode, BadRegisterCode}
use Rattle.equivalents.specs.declared.values.Loc.{Loc}
use Rattle.equivalents.specs.Locations.{SeenValue}
use Rattle.rows.specs.declared.words.Value.{Value}
use Rattle.rows.specs.declared.words.Phrase.{Phrase}
use Rattle.rows.specs.declared.words.Phrase.TheVariants.{Command, Dimension, Glue}
use Rattle.rows.specs.declared.command.Call.{Call}
use Rattle.rows.specs.declared.command.Effect.{Effect}
use Rattle.rows.specs.declared.command.Effect.TheVariants.{ExpandBehind}
use Rattle.rows.specs.Readings.{Fed, Tok, Val, Noted, Fetched, Ask, More, Inner, Done, Acts, ActsOn, Defines, Ends, Calls, Fails, RunsAway, Tells, Inserts, Puts, Relaxes, Fetches, Magnifies}
use Rattle.plain_readings.specs.Readings.{Kind, Reads, Behind, ask}
use Rattle.plain_readings.specs.Laws.{IsRead, after}

-- What an open reading weighs, one that ends with a value less than one that acts; what its end with a value does, what an act or another end
-- does, and what `\expandafter` does, which ends, and has a token wait in its place and perhaps an expansion begin above that.
abbrev pub value_frame : ℕ
value_frame = 10

abbrev pub act_frame : ℕ
act_frame = 40

abbrev pub frame_weight : Kind → ℕ
frame_weight (Reads (Command c)) = act_frame
frame_weight (Reads k) = value_frame
frame_weight k = act_frame

abbrev pub value_weight : ℕ
value_weight = 56

abbrev pub act_weight : ℕ
act_weight = 59

abbrev pub behind_weight : ℕ
behind_weight = 60

abbrev pub effect_weight : Effect → ℕ
effect_weight (ExpandBehind x y) = behind_weight
effect_weight e = act_weight

-- the most that the end of a reading of this kind weighs: the readings that commands begin end with values
abbrev pub end_weight : Kind → ℕ
end_weight (Reads (Command c)) = behind_weight
end_weight (Reads k) = value_weight
end_weight k = behind_weight

-- behind the number of a register or of a character that is out of its range something is fetched
abbrev pub fetching_behind : Report → ℕ
fetching_behind (BadCharacterCode n) = 3
fetching_behind (BadRegisterCode n) = 3
fetching_behind report = 0

-- a reading that begins with a token may begin another with it
abbrev pub begins_with : Phrase → ℕ
begins_with (Dimension k) = 81
begins_with (Glue mu) = 92
begins_with k = 70

-- A token weighs nothing, since it is a step. A reading begun weighs more than it does then, also where it reports the token that it begins
-- with. A report weighs more than the end behind it, than the reports that may follow it, and than what is fetched behind it; and that weighs
-- more than the reports of glue in mu and of a dimension that is too large, which may come then. Behind the check of the magnification that is
-- fetched. A token put back weighs more than those that follow it, and than the end behind them.
abbrev pub ask_weight : (end : ℕ) → Ask → ℕ
ask_weight end (More want) = 0
ask_weight end (Inner j false) = 11
ask_weight end (Inner j true) = begins_with j
ask_weight end (Done v back) = value_weight
ask_weight end (Acts c e) = effect_weight e
ask_weight end (Tells report back) = end + 1 + after report + fetching_behind report
ask_weight end (Inserts t report back) = end + 1 + after report + fetching_behind report
ask_weight end (Puts t more) = end + 1 + more
ask_weight end (Relaxes c n) = end + 1
ask_weight end (Fetches l) = end + 3
ask_weight end Magnifies = end + 4
ask_weight end a = act_weight

-- what a reading weighs that was fed with this
abbrev pub weight : Kind → List Fed → ℕ
weight k fed = ask_weight (end_weight k) (ask k fed)

-- it is fed with a note then
abbrev pub IsNoted : Ask → Type 0
IsNoted (Tells report back) = Unit {0}
IsNoted (Inserts t report back) = Unit {0}
IsNoted (Puts t more) = Unit {0}
IsNoted (Relaxes c n) = Unit {0}
IsNoted Magnifies = Unit {0}
IsNoted a = ⊥

-- an answer with which a reading ends, but for one that has a value
abbrev pub IsLast : Ask → Type 0
IsLast (Acts c e) = Unit {0}
IsLast (ActsOn c e ts) = Unit {0}
IsLast (Defines c n ts) = Unit {0}
IsLast Ends = Unit {0}
IsLast (Calls args) = Unit {0}
IsLast (Fails report) = Unit {0}
IsLast (RunsAway report) = Unit {0}
IsLast a = ⊥

-- A reading is begun, alone or with a token; one that has a value ends, and the one beneath is fed with it; one acts or ends, and any may stand
-- beneath it, and it is one of those that weigh more; one that acts has another begun in its place; where `\expandafter` ends, its token waits, and
-- perhaps an expansion begins above that; a report's note comes, or that of the check of the magnification; and what stands at a location.
pub record WeightsFall : Type 0 where
  pub begun : (k : Kind) (fed : List Fed) (j : Phrase) → ask k fed ≡ Inner j false → frame_weight (Reads j) + weight (Reads j) [] < weight k fed
  pub begun_with : (k : Kind) (fed : List Fed) (j : Phrase) (x : Seen) → ask k fed ≡ Inner j true → frame_weight (Reads j) + weight (Reads j) (Tok x ∷ []) < weight k fed
  pub valued : (k : Kind) (fed : List Fed) (v : Value) (ts : List Token) → weight k (fed ++ Val v ts ∷ []) < value_frame + value_weight
  pub acted : (k : Kind) (fed : List Fed) → weight k fed < act_frame + act_weight
  pub ends : (k : Kind) (fed : List Fed) → IsLast (ask k fed) → frame_weight k ≡ act_frame
  pub frames : (k : Kind) → (value_frame ≤ frame_weight k) × (frame_weight k ≤ act_frame)
  pub heavy : (e : Effect) → act_weight ≤ effect_weight e
  pub begun_by_act : (k : Kind) → IsRead k → weight k [] < act_weight
  pub waits : (k : Kind) (fed : List Fed) (c d : Call) (x y z : Seen) → ask k fed ≡ Acts c (ExpandBehind x y) → weight (Behind d z) [] < weight k fed
  pub expanded_behind : (k : Kind) (fed : List Fed) (c : Call) (x y : Seen) (j : Kind) → ask k fed ≡ Acts c (ExpandBehind x y) → IsRead j → frame_weight j + weight j [] < weight k fed
  pub noted : (k : Kind) (fed : List Fed) → IsNoted (ask k fed) → weight k (fed ++ Noted ∷ []) < weight k fed
  pub fetched : (k : Kind) (fed : List Fed) (l : Loc) (v : SeenValue) → ask k fed ≡ Fetches l → weight k (fed ++ Fetched v ∷ []) < weight k fed
