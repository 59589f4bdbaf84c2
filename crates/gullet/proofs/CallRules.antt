-- The rule of a call, by what it asks for.
use Rattle.std.proofs.Common.{◌≡◌, ℕ, List, [], ◌∷◌, ◌++◌, length, refl, ap, ◌∙◌, false}
use Rattle.std.specs.Prelude.{Option, Some}
use Rattle.tex_syntax.specs.declared.words.Want.TheVariants.{Raw}
use Rattle.tex_syntax.specs.declared.words.Report.TheVariants as reports
use Rattle.tex_defs.specs.declared.Name.{Name}
use Rattle.tex_defs.specs.declared.Token.{Token}
use Rattle.plain_readings.specs.Scanning.{scanning, list_on_top}
use Rattle.plain_readings.specs.Readings.{Reading}
use Rattle.plain_machine.specs.Plan.{failed_away}
use Rattle.input_state.specs.CallFeeds.{call_work}
use Rattle.input_state.specs.Callings as calls
use Rattle.input_state.specs.Callings.{Calling, call_lists, last_first, call_in}
use Rattle.input_state.specs.Stored.{gathered}
use Rattle.macro_call.specs.PlainScans.{scan_work}
use Rattle.input_state.specs.declared.answer.Call.{Call}
use Rattle.macro_call.specs.declared.ask.CallAsk.{CallAsk}
use Rattle.macro_call.specs.declared.ask.CallAsk.TheVariants as asked
use Rattle.engine_state.specs.declared.engine.Engine.{Engine}
use Rattle.engine_state.specs.Book.{Book}
use Rattle.engine_state.specs.Calls.{argument_bytes, call_away_moves, work_or_none}
use Rattle.engine_state.proofs.CallsIn.{open_call}
use Rattle.engine_state.proofs.CallsKnown.{CallStands, IsStopped, call_scanned, first_work, no_args}
use Rattle.engine_state.specs.Rules.{WantsHere}
use Rattle.engine_state.specs.Stands.{page_of}
use Rattle.engine_state.specs.Steps.{asks_now, asked_by, asked}

-- what the call is, where it asks for this
pub asks_this : (e : Engine) (c : Call) (a : CallAsk) → call_in e.input.call ≡ Some c → c.ask ≡ a → call_in e.input.call ≡ Some (record { name = c.name; ask = a })
asks_this e c a is same = is ∙ ap (λ (x : CallAsk). Some (record { name = c.name; ask = x })) same

-- it takes a token as it stands
pub call_wants : (e : Engine) (name : Name) → call_in e.input.call ≡ Some (open_call name) → WantsHere (asks_now e) (Some Raw)
call_wants e name is = ap (λ (c : Option Call). asked_by c e.input.call (asked e)) is

-- AN ARGUMENT THAT RUNS AWAY

stopped_list : (k : Calling) (builds : List (List Token)) (n : ℕ) → IsStopped k → n ≡ length (call_lists k) → list_on_top n (call_lists k ++ builds) ≡ work_or_none (call_work k)
stopped_list calls.NotCalling builds n h is = absurd h
stopped_list (calls.Gathering m scan) builds n h is = absurd h
stopped_list (calls.Stopped m why scan) builds n h is = first_work (scan_work scan) (last_first scan.args []) builds n is (no_args scan h)
stopped_list (calls.Gathered m args) builds n h is = absurd h

pub away_is : (e : Engine) (book : Book) (number : ℕ → ℕ) (name : Name) (r : Reading) (rs : List Reading) → CallStands e number (record { name = name; ask = asked.ParEnded false }) r →
    failed_away (page_of e book) (reports.ParagraphEnded name) (scanning (r ∷ rs) (gathered e.input)) ≡ call_away_moves (page_of e book) (argument_bytes e) e.last.token (reports.ParagraphEnded name)
away_is e book number name r rs h =
    let list = stopped_list e.input.call e.input.builds (length (call_lists e.input.call)) h.at refl in
    ap (failed_away (page_of e book) (reports.ParagraphEnded name)) (call_scanned e number (record { name = name; ask = asked.ParEnded false }) r rs (work_or_none (call_work e.input.call)) h list)
