-- What a call answers behind a token, and how far it is then.
use Rattle.std.proofs.Common.{◌≡◌, List, [], ◌∷◌, ◌++◌, refl, sym, ap, subst, ◌∙◌, Bool, false}
use Rattle.std.proofs.lemmas.List.{append-nil}
use Rattle.std.specs.Prelude.{Option, Some, None, option_to_list}
use Rattle.tex_defs.specs.declared.Seen.{Seen}
use Rattle.tex_defs.specs.declared.Token.{Token}
use Rattle.tex_defs.specs.declared.Name.{Name}
use Rattle.plain_tokens.specs.Arguments as call
use Rattle.plain_tokens.specs.Arguments.{Answer, arguments_in, work_in, gathering, mode_of, places_of, start_of}
use Rattle.rows.specs.Readings.{Fed, Tok, Noted, Cut, Val, Fetched, Verbatim}
use Rattle.plain_readings.specs.Calls.{call_fed, gathered}
use Rattle.macro_call.specs.ArgumentLaws.{IsClosed}
use Rattle.macro_call.specs.declared.ask.CallAsk.{CallAsk}
use Rattle.macro_call.specs.declared.ask.CallAsk.TheVariants as ask
use Rattle.macro_call.specs.PlainScans.{Scan, resume_scan, scan_work}
use Rattle.macro_call.specs.Scans.{answer_of}
use Rattle.macro_call.proofs.ArgumentRuns.{call_stays}
use Rattle.input_state.specs.CallFeeds.{Says, IsAnswer, Comes, goes_on}
use Rattle.input_state.specs.Callings as calls
use Rattle.input_state.specs.Callings.{Calling, call_lists, last_first, scan_asks, ended_asks}
use Rattle.input_state.specs.declared.answer.CallEnd.{CallEnd}
use Rattle.input_state.specs.declared.answer.CallEnd.TheVariants as end
use Rattle.engine_state.specs.Calls.{HasRead, HasWork, IsEnded, ended_answer}
use Rattle.engine_state.proofs.CallsKnown.{Gathers, lists_by}
use Rattle.engine_state.proofs.CallFeedingCases.{FedCase, Waits, Enters, Grown, Last, Next, turn}

-- WHAT FOLLOWS AN END changes nothing

fed_join : (fed more : List Fed) → call_fed (fed ++ more) ≡ call_fed fed ++ call_fed more
fed_join [] more = refl
fed_join (Tok x ∷ fed) more = ap (λ (l : List call.Fed). call.Tok x.token ∷ l) (fed_join fed more)
fed_join (Noted ∷ fed) more = ap (λ (l : List call.Fed). call.Noted ∷ l) (fed_join fed more)
fed_join (Cut ∷ fed) more = ap (λ (l : List call.Fed). call.Cut ∷ l) (fed_join fed more)
fed_join (Val v ts ∷ fed) more = fed_join fed more
fed_join (Fetched v ∷ fed) more = fed_join fed more
fed_join (Verbatim t ∷ fed) more = fed_join fed more

pub stays : (long : Bool) (text : List Token) (fed : List Fed) (a : Answer) → gathered long text fed ≡ a → IsClosed a → (more : List Fed) → gathered long text (fed ++ more) ≡ a
stays long text fed a is closed more =
    ap (gathering text (mode_of long)) (fed_join fed more)
    ∙ call_stays (call_fed fed) (call_fed more) (mode_of long) (start_of text) (places_of text) (subst IsClosed (sym is) closed)
    ∙ is

pub ended_closed : (why : CallEnd) (scan : Scan) → IsEnded why → IsClosed (ended_answer why scan)
ended_closed end.Mismatch scan h = tt
ended_closed (end.ParEnded silent) scan h = tt
ended_closed end.Full scan h = absurd h

-- WHAT IS ANSWERED

-- a scanner is kept only where the arguments aren't all there
no_arguments : (answer : CallAsk) (next : Scan) (a : Answer) (args : List (List Token)) → Says answer next a → a ≡ call.Called args → ⊥
no_arguments ask.More next a args is whole = cc (is, whole)
no_arguments ask.ExtraBrace next a args is whole = cc (is, whole)
no_arguments ask.Gathered next a args is whole = is
no_arguments ask.Mismatch next a args is whole = cc (is, whole)
no_arguments (ask.ParEnded silent) next a args is whole = cc (is, whole)

pub says_is : (answer : CallAsk) (next : Scan) (a : Answer) → Says answer next a → a ≡ answer_of answer next.args (scan_work next)
says_is ask.More next a is = is
says_is ask.ExtraBrace next a is = is
says_is ask.Gathered next a is = absurd is
says_is ask.Mismatch next a is = is
says_is (ask.ParEnded silent) next a is = is

-- in front of the token
pub in_front : (long : Bool) (text : List Token) (scan : Scan) (fed : List Fed) → Gathers long text scan fed → gathered long text fed ≡ resume_scan text scan []
in_front long text scan fed g = ap (gathered long text) (sym (append-nil fed)) ∙ g.goes_on []

-- what it comes to
pub scan_turn : (long : Bool) (text : List Token) (scan : Scan) (fed : List Fed) (x : Seen) → HasWork scan → Gathers long text scan fed → FedCase scan.args (scan_work scan) (resume_scan text scan (call.Tok x.token ∷ []))
scan_turn long text scan fed x has g = turn text scan x.token has (sym (ap work_in (in_front long text scan fed g)) ∙ g.work)

-- one that was not cut off
pub ended_so : (why : CallEnd) → goes_on (ended_asks why) ≡ false → IsEnded why
ended_so end.Mismatch closed = tt
ended_so (end.ParEnded silent) closed = tt
ended_so end.Full closed = absurd cc

module _ (text : List Token) (scan : Scan) (x : Seen) where
  abbrev a : Answer
  a = resume_scan text scan (call.Tok x.token ∷ [])

  -- the lists that it holds then
  stood_lists : (answer : CallAsk) (next : Scan) → IsAnswer text x.token answer scan next → option_to_list (scan_work next) ++ last_first next.args [] ≡ lists_by a
  stood_lists answer next s =
      ap (λ (o : Option (List Token)). option_to_list o ++ last_first next.args []) s.work
      ∙ ap (λ (args : List (List Token)). option_to_list (work_in a) ++ last_first args []) s.args

  pub lists_after : (name : Name) (k : Calling) → Comes text x.token name scan k → call_lists k ≡ lists_by a
  lists_after name calls.NotCalling h = absurd h
  lists_after name (calls.Gathering n next) h = stood_lists (scan_asks next) next h.1.stands
  lists_after name (calls.Stopped n why next) h = stood_lists (ended_asks why) next h.1.stands
  lists_after name (calls.Gathered n args) h = sym (ap lists_by h.1)

  module _ (far : HasRead (scan_asks scan) scan (resume_scan text scan [])) (answer : CallAsk) (next : Scan) (s : IsAnswer text x.token answer scan next) where
    -- it has no argument where it has no list in work
    has_after : HasWork next
    has_after none = by_turn (turn text scan x.token far.bare far.work) where
      now : work_in a ≡ None
      now = sym s.work ∙ none

      by_turn : FedCase scan.args (scan_work scan) a → next.args ≡ []
      by_turn (Waits w bare work args) = s.args ∙ args
      by_turn (Enters w bare work args) = s.args ∙ args
      by_turn (Grown was more w work args) = cc (work, now)
      by_turn (Last was arg w is) = absurd (no_arguments answer next a _ s.says is)
      by_turn (Next was arg w is) = let some : work_in a ≡ Some [] = ap work_in is in cc (some, now)

    -- how far it is
    pub read_after : (b : Answer) → a ≡ b → HasRead answer next b
    read_after b is = record { says = sym is ∙ says_is answer next a s.says; args = ap arguments_in (sym is) ∙ sym s.args; work = ap work_in (sym is) ∙ sym s.work; bare = has_after }
