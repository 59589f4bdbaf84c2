-- A state whose files go on does the same by one rule.
use Rattle.std.proofs.Common.{◌≡◌, ℕ, ◌+◌, ◌<◌, Bool, true, false, List, [], ◌∷◌, ◌++◌, length, refl, sym, ap, ap₂, ◌∙◌, subst, arith}
use Rattle.std.specs.Prelude.{Option, Some, None, if◌then◌else◌}
use Rattle.std.proofs.lemmas.Bool.{true≢false}
use Rattle.tex_syntax.specs.declared.words.Report.TheVariants.{InvalidCharacter}
use Rattle.tex_syntax.specs.declared.words.Outcome.{Outcome}
use Rattle.tex_defs.specs.Places.{World}
use Rattle.tex_defs.specs.declared.Full.{Full}
use Rattle.tex_defs.specs.declared.Sizes.{Sizes}
use Rattle.tex_defs.specs.declared.Seen.{Seen}
use Rattle.tex_defs.specs.declared.Token.{Token}
use Rattle.tex_defs.specs.declared.Table.TheVariants.{ParameterStackSize}
use Rattle.plain_tokens.specs.Lines.{first_bytes}
use Rattle.plain_tokens.specs.Lookup.{token_of, new_name}
use Rattle.plain_tokens.specs.Tokens.{character_codes}
use Rattle.plain_tokens.specs.Meanings.{met as met_token}
use Rattle.plain_tokens.specs.Puts.{Item, First, Put as PutList, next_item, put_parameters}
use Rattle.plain_tokens.specs.Pending.{Pending, Pulled, TokenFrom, LexemeFrom, LineTaken, InvalidMet, FileOver, NothingLeft, end_token_lists, pulled, after_pull, with_end}
use Rattle.rows.specs.declared.command.Call.{Call}
use Rattle.rows.specs.declared.command.Effect.{Effect}
use Rattle.rows.specs.declared.command.Effect.TheVariants as effect
use Rattle.rows.specs.Readings.{Tok, Ask, More, ActsOn}
use Rattle.plain_readings.specs.Readings.{Reading, ask, lists}
use Rattle.plain_readings.specs.Scanning.{Scanning, scanning}
use Rattle.equivalents.specs.Parameters.{end_of_line}
use Rattle.plain_machine.specs.declared.broken.Broken.{Broken}
use Rattle.plain_machine.specs.declared.broken.Broken.TheVariants as broken
use Rattle.plain_machine.specs.States.{State, Move, Handed, Taken, FirstTaken, ListsEnded, Skipped, FileClosed, FileOpened, Spelt, Grows, Opened, ListBegun, ListGrown, Put, Called, CalledWith, Begun, BegunWith, made}
use Rattle.plain_tokens.specs.Tables.{Demand, held_words, lists_words, memory, buffer, lines_beneath, line_need, level, opened_level, parameters, spelt_name, next_line, refused}
use Rattle.equivalents.specs.Holding.{lists_held, shared_words}
use Rattle.command_words.specs.Words.{file_name}
use Rattle.plain_machine.specs.Demands.{words, depth, refusal}
use Rattle.plain_machine.specs.Plan.{Page, page_of, plan, ruled, planned, answered, handed, met, entered, enters_names, checked, at_line, reported, stomach, wanted, feeding, Ends, Goes, next, next_of, first_of_plan}
use Rattle.plain_machine.specs.Runs.{Wrote, step_of, steps, made_all, NeedsStep}
use Rattle.plain_machine.specs.Bounded.{AllFit}
use Rattle.plain_machine.specs.Does.{Did, Cut, IsOutside, Refuses, IsCause, front_of}
use Rattle.plain_machine.specs.Extended.{Rests, first_left, next_extended, extended_pending, extended, closes, rests_before, starts, starts_input, IsReady, IsStill, AreStill, Reads}
use Rattle.plain_machine.proofs.Joins.{StepComes, plan_needs, next_due}
use Rattle.plain_machine.proofs.Settling.{pulled_settled}
use Rattle.plain_machine.proofs.Pulls.{pull_of, pulls, pulls_join, steps_pull, reads, steps_read, begun_reads, begun_pulls, stomach_none, wanted_none, kind_none, met_none, checked_none, reported_none, entered_none, WantsNone, answered_none}
use Rattle.plain_machine.proofs.Ahead.{full_buffer, long_refused, all_puts_same, lines_beneath_same, level_same, spelt_same, extended_pulled, before, takes_line, Sight, Alike, Long, sight, nothing_left}

-- MOVES THAT DO THE SAME

-- the move makes the same of the extended state, and fits it where it fits
record Agrees (sizes : Sizes) (r : Rests) (m : Move) (s : State) : Type 0 where
  makes : made m (extended r s) ≡ extended r (made m s)
  fits : refusal sizes m (extended r s) ≡ refusal sizes m s

abbrev AllAgree : Sizes → Rests → List Move → State → Type 0
AllAgree sizes r [] s = Unit {0}
AllAgree sizes r (m ∷ ms) s = Agrees sizes r m s × AllAgree sizes r ms (made m s)

words_same : (r : Rests) (s : State) → words (extended r s) ≡ words s
words_same r s = ap (λ (ps : List PutList). shared_words 0 (lists_held s.groups) ps s.all_lists + held_words ps s.making s.gathered) (all_puts_same r.left s.pending)

module _ (sizes : Sizes) (r : Rests) (s : State) where
  -- where words, a level or a place in the buffer is asked for
  words_fit : (need : ℕ) → refused sizes (memory need (words (extended r s)) ∷ []) ≡ refused sizes (memory need (words s) ∷ [])
  words_fit need = ap (λ (n : ℕ). refused sizes (memory need n ∷ [])) (words_same r s)

  deep_words_fit : (need : ℕ) → refused sizes (depth s.work ∷ memory need (words (extended r s)) ∷ []) ≡ refused sizes (depth s.work ∷ memory need (words s) ∷ [])
  deep_words_fit need = ap (λ (n : ℕ). refused sizes (depth s.work ∷ memory need n ∷ [])) (words_same r s)

  one_fits : (d d' : Demand) → d' ≡ d → refused sizes (d' ∷ []) ≡ refused sizes (d ∷ [])
  one_fits d d' e = ap (λ (x : Demand). refused sizes (x ∷ [])) e

  call_fits : (p : PutList) → refused sizes (parameters p (extended_pending r.left s.pending) ∷ level (extended_pending r.left s.pending) ∷ []) ≡ refused sizes (parameters p s.pending ∷ level s.pending ∷ [])
  call_fits p =
      ap₂ (λ (ps : List PutList) (d : Demand). refused sizes (record { table = ParameterStackSize; used = put_parameters ps; need = length p.arguments } ∷ d ∷ [])) (all_puts_same r.left s.pending)
      (level_same r.left s.pending)

-- one that doesn't pull
still_agrees : (sizes : Sizes) (r : Rests) (m : Move) (s : State) → pull_of m ≡ 0 → Agrees sizes r m s
still_agrees sizes r (Handed t) s h = absurd (omega (arith, h))
still_agrees sizes r (Taken line) s h = absurd (omega (arith, h))
still_agrees sizes r (FirstTaken line) s h = absurd (omega (arith, h))
still_agrees sizes r Skipped s h = absurd (omega (arith, h))
still_agrees sizes r FileClosed s h = absurd (omega (arith, h))
still_agrees sizes r (FileOpened name) s h = absurd (omega (arith, h))
still_agrees sizes r (Spelt name) s h = record { makes = refl; fits = one_fits sizes r s (spelt_name name s.pending) (spelt_name name (extended_pending r.left s.pending)) (spelt_same r.left s.pending name) }
still_agrees sizes r (Grows t) s h = record { makes = refl; fits = words_fit sizes r s 1 }
still_agrees sizes r Opened s h = record { makes = refl; fits = words_fit sizes r s 1 }
still_agrees sizes r ListBegun s h = record { makes = refl; fits = words_fit sizes r s 1 }
still_agrees sizes r (ListGrown t) s h = record { makes = refl; fits = words_fit sizes r s 1 }
still_agrees sizes r (Put ts) s h = record { makes = refl; fits = one_fits sizes r s (level s.pending) (level (extended_pending r.left s.pending)) (level_same r.left s.pending) }
still_agrees sizes r (Called p) s h = record { makes = refl; fits = one_fits sizes r s (level s.pending) (level (extended_pending r.left s.pending)) (level_same r.left s.pending) }
still_agrees sizes r (CalledWith p) s h = record { makes = refl; fits = call_fits sizes r s p }
still_agrees sizes r (Begun k) s h = record { makes = refl; fits = deep_words_fit sizes r s (lists_words (lists k [])) }
still_agrees sizes r (BegunWith k) s h = record { makes = refl; fits = deep_words_fit sizes r s (lists_words (lists k (Tok s.last ∷ []))) }
still_agrees sizes r m s h = record { makes = refl; fits = refl }

all_still : (sizes : Sizes) (r : Rests) (ms : List Move) (s : State) → pulls ms ≡ 0 → AllAgree sizes r ms s
all_still sizes r [] s h = tt
all_still sizes r (m ∷ ms) s h = (still_agrees sizes r m s (omega (arith, h)), all_still sizes r ms (made m s) (omega (arith, h)))

module _ (sizes : Sizes) (r : Rests) where
  all_makes : (ms : List Move) (s : State) → AllAgree sizes r ms s → made_all ms (extended r s) ≡ extended r (made_all ms s)
  all_makes [] s h = refl
  all_makes (m ∷ ms) s h = ap (made_all ms) h.0.makes ∙ all_makes ms (made m s) h.1

  all_fit : (ms : List Move) (s : State) → AllAgree sizes r ms s → AllFit sizes ms s → AllFit sizes ms (extended r s)
  all_fit [] s h f = tt
  all_fit (m ∷ ms) s h f = (h.0.fits ∙ f.0, subst (AllFit sizes ms) (sym h.0.makes) (all_fit ms (made m s) h.1 f.1))

  first_agree : (done rest : List Move) (s : State) → AllAgree sizes r (done ++ rest) s → AllAgree sizes r done s
  first_agree [] rest s h = tt
  first_agree (d ∷ done) rest s h = (h.0, first_agree done rest (made d s) h.1)

  next_agrees : (done : List Move) (m : Move) (rest : List Move) (s : State) → AllAgree sizes r (done ++ m ∷ rest) s → Agrees sizes r m (made_all done s)
  next_agrees [] m rest s h = h.0
  next_agrees (d ∷ done) m rest s h = next_agrees done m rest (made d s) h.1

  did_agrees : (ms : List Move) (s s' : State) (w w' : World) → AllAgree sizes r ms s → Did sizes s s' w w' ms → Did sizes (extended r s) (extended r s') w w' ms
  did_agrees ms s s' w w' h d = record { state = all_makes ms s h ∙ ap (extended r) d.state; fits = all_fit ms s h d.fits; written = d.written }

  refuses_agrees : (why : Broken) (m : Move) (s : State) → Agrees sizes r m s → Refuses sizes why m s → Refuses sizes why m (extended r s)
  refuses_agrees (broken.Full full) m s h says = h.fits ∙ says
  refuses_agrees broken.WriteFault m s h says = says
  refuses_agrees broken.Want m s h says = says

  cut_agrees : (ms : List Move) (s at : State) (w w' : World) (why : Broken) → AllAgree sizes r ms s → Cut sizes s at w w' ms why → Cut sizes (extended r s) (extended r at) w w' ms why
  cut_agrees ms s at w w' why h c =
      let parts : AllAgree sizes r (c.done ++ c.m ∷ c.rest) s = subst (λ (x : List Move). AllAgree sizes r x s) c.all h in
      let first : AllAgree sizes r c.done s = first_agree c.done (c.m ∷ c.rest) s parts in
      let here : Agrees sizes r c.m at = subst (Agrees sizes r c.m) c.state (next_agrees c.done c.m c.rest s parts) in
      record {
        done = c.done;
        m = c.m;
        rest = c.rest;
        count = c.count;
        all = c.all;
        state = all_makes c.done s first ∙ ap (extended r) c.state;
        fits = all_fit c.done s first c.fits;
        refuses = refuses_agrees why c.m at here c.refuses;
        cause = c.cause;
        written = c.written;
      }

-- moves that pull nothing
module _ (sizes : Sizes) (r : Rests) (ms : List Move) (s : State) where
  pub still_did : (s' : State) (w w' : World) → pulls ms ≡ 0 → Did sizes s s' w w' ms → Did sizes (extended r s) (extended r s') w w' ms
  still_did s' w w' none d = did_agrees sizes r ms s s' w w' (all_still sizes r ms s none) d

  pub still_cut : (at : State) (w w' : World) (why : Broken) → pulls ms ≡ 0 → Cut sizes s at w w' ms why → Cut sizes (extended r s) (extended r at) w w' ms why
  still_cut at w w' why none c = cut_agrees sizes r ms s at w w' why (all_still sizes r ms s none) c

-- A MOVE THAT PULLS

-- behind the finished lists in front
abbrev pulled_pending : List ℕ → Pending → Pending
pulled_pending categories p = after_pull (end_token_lists p) (pulled categories (end_token_lists p))

pulled_as : (categories : List ℕ) (p : Pending) (r : Pulled) → pulled categories p ≡ r → pulled_pending categories p ≡ after_pull (end_token_lists p) r
pulled_as categories p r e = ap (after_pull (end_token_lists p)) (pulled_settled categories p ∙ e)

-- something is left
abbrev IsLeft : Pulled → Type 0
IsLeft NothingLeft = ⊥
IsLeft r = Unit {0}

pending_extended : (categories : List ℕ) (left' left : List (List ℕ)) (p : Pending) (r : Pulled) → IsLeft r → pulled categories p ≡ r → pulled categories (extended_pending left' p) ≡ extended_pulled left r →
    pulled_pending categories (extended_pending left' p) ≡ extended_pending left (pulled_pending categories p)
pending_extended categories left' left p (TokenFrom t q) some e e' = pulled_as categories (extended_pending left' p) _ e' ∙ sym (ap (extended_pending left) (pulled_as categories p (TokenFrom t q) e))
pending_extended categories left' left p (LexemeFrom x q) some e e' = pulled_as categories (extended_pending left' p) _ e' ∙ sym (ap (extended_pending left) (pulled_as categories p (LexemeFrom x q) e))
pending_extended categories left' left p (LineTaken line q) some e e' = pulled_as categories (extended_pending left' p) _ e' ∙ sym (ap (extended_pending left) (pulled_as categories p (LineTaken line q) e))
pending_extended categories left' left p (InvalidMet q) some e e' = pulled_as categories (extended_pending left' p) _ e' ∙ sym (ap (extended_pending left) (pulled_as categories p (InvalidMet q) e))
pending_extended categories left' left p (FileOver q) some e e' = pulled_as categories (extended_pending left' p) _ e' ∙ sym (ap (extended_pending left) (pulled_as categories p (FileOver q) e))
pending_extended categories left' left p NothingLeft some e e' = absurd some

opened_extended : (left : List (List ℕ)) (x : Option Item) (p : Pending) → opened_level x (extended_pending left p) ≡ opened_level x p
opened_extended left None p = refl
opened_extended left (Some (First t)) p = ap (λ (d : Demand). d ∷ []) (level_same left p)
opened_extended left (Some x) p = refl

line_extended : (left : List (List ℕ)) (p : Pending) → first_bytes (extended_pending left p).rest ≡ first_bytes p.rest → next_line (extended_pending left p) ≡ next_line p
line_extended left p e = ap₂ (λ (first : List ℕ) (n : ℕ). buffer (1 + length first) n ∷ []) e (lines_beneath_same _ p.outer)

handed_same : (left : List (List ℕ)) (page : Page) (enters : Bool) (o : Option Scanning) (onward : Seen → List Move) (r : Pulled) → handed page enters o onward (extended_pulled left r) ≡ handed page enters o onward r
handed_same left page enters o onward (TokenFrom t q) = refl
handed_same left page enters o onward (LexemeFrom x q) = refl
handed_same left page enters o onward (LineTaken line q) = refl
handed_same left page enters o onward (InvalidMet q) = refl
handed_same left page enters o onward (FileOver q) = refl
handed_same left page enters o onward NothingLeft = refl

-- The moves are the same and do the same, or the innermost file goes by them, or they take a line that is too long.
data Extends (sizes : Sizes) (r' r : Rests) (s : State) (ms' ms : List Move) : Type 0 where
  Same : r' ≡ r → ms' ≡ ms → AllAgree sizes r ms s → Extends sizes r' r s ms' ms
  Closing : (rest : List Move) → ms ≡ ListsEnded ∷ FileClosed ∷ rest → ms' ≡ ms → pulls rest ≡ 0 → made FileClosed (made ListsEnded (extended r' s)) ≡ extended r (made FileClosed (made ListsEnded s)) → Extends sizes r' r s ms' ms
  Refused : r' ≡ r → (line line' : List ℕ) → (full : Full) → ms ≡ ListsEnded ∷ Taken line ∷ [] → ms' ≡ ListsEnded ∷ Taken line' ∷ [] → refusal sizes (Taken line) (made ListsEnded s) ≡ Some full →
      refusal sizes (Taken line') (made ListsEnded (extended r s)) ≡ Some full → Extends sizes r' r s ms' ms

module _ (sizes : Sizes) (gone : List ℕ) (r : Rests) (s : State) where
  abbrev categories : List ℕ
  categories = s.groups.now.categories

  -- what is left before this is pulled
  abbrev rests_of : Pulled → Rests
  rests_of x = record { left = before gone x r.left; files = r.files }

  abbrev other : Rests → Pulled
  other b = pulled categories (extended_pending b.left s.pending)

  module _ (x : Pulled) (some : IsLeft x) (is : pulled categories s.pending ≡ x) (same : other (rests_of x) ≡ extended_pulled r.left x) where
    abbrev with_pending : Pending → State
    with_pending p = record s { pending = p; files = r.files }

    pends : pulled_pending categories (extended_pending (rests_of x).left s.pending) ≡ extended_pending r.left (pulled_pending categories s.pending)
    pends = pending_extended categories (rests_of x).left r.left s.pending x some is same

    makes_pending : with_pending (pulled_pending categories (extended_pending (rests_of x).left s.pending)) ≡ extended r (record s { pending = pulled_pending categories s.pending })
    makes_pending = ap with_pending pends

    -- a line gets its end character
    ends_pending : with_pending (with_end (end_of_line s.groups.now) (pulled_pending categories (extended_pending (rests_of x).left s.pending))) ≡ extended r (record s { pending = with_end (end_of_line s.groups.now) (pulled_pending categories s.pending) })
    ends_pending = ap (λ (p : Pending). with_pending (with_end (end_of_line s.groups.now) p)) pends

  handed_fits : (t : Token) → refusal sizes (Handed t) (made ListsEnded (extended r s)) ≡ refusal sizes (Handed t) (made ListsEnded s)
  handed_fits t = ap (refused sizes) (opened_extended r.left (next_item (end_token_lists s.pending).puts) (end_token_lists s.pending))

  taken_fits : (line : List ℕ) → first_bytes (extended_pending r.left s.pending).rest ≡ first_bytes s.pending.rest → refusal sizes (Taken line) (made ListsEnded (extended r s)) ≡ refusal sizes (Taken line) (made ListsEnded s)
  taken_fits line e = ap (refused sizes) (line_extended r.left (end_token_lists s.pending) e)

  settles : Agrees sizes r ListsEnded s
  settles = still_agrees sizes r ListsEnded s refl

  module _ (page : Page) (enters : Bool) (o : Option Scanning) (onward : Seen → List Move) (still : (x : Seen) → pulls (onward x) ≡ 0) where
    abbrev moves : Pulled → List Move
    moves x = handed page enters o onward x

    handed_all : (x : Pulled) → pulled categories s.pending ≡ x → other (rests_of x) ≡ extended_pulled r.left x →
        (takes_line x ≡ true → first_bytes (extended_pending r.left s.pending).rest ≡ first_bytes s.pending.rest) → moves (other (rests_of x)) ≡ moves x → Extends sizes (rests_of x) r s (moves (other (rests_of x))) (moves x)
    handed_all (TokenFrom t q) is same e alike =
        Same refl alike
        (settles, (record { makes = makes_pending (TokenFrom t q) tt is same; fits = handed_fits t }, all_still sizes r (met page o onward (met_token page.now.meanings t)) (made (Handed t) (made ListsEnded s)) (met_none page o onward (met_token page.now.meanings t) still)))
    handed_all (LexemeFrom x q) is same e alike =
        let t : Token = token_of enters page.names x in
        let names : List Move = entered (new_name enters page.names x) in
        let behind : List Move = met page o onward (met_token page.now.meanings t) in
        Same refl alike (
          settles,
          (
            record { makes = makes_pending (LexemeFrom x q) tt is same; fits = handed_fits t },
            all_still sizes r (names ++ behind) (made (Handed t) (made ListsEnded s))
                (pulls_join names behind ∙ omega (arith, entered_none (new_name enters page.names x), met_none page o onward (met_token page.now.meanings t) still)),
          ),
        )
    handed_all (LineTaken line q) is same e alike = Same refl alike (settles, (record { makes = ends_pending (LineTaken line q) tt is same; fits = taken_fits line (e refl) }, tt))
    handed_all (InvalidMet q) is same e alike =
        Same refl alike
        (settles, (record { makes = makes_pending (InvalidMet q) tt is same; fits = refl }, all_still sizes r (reported page InvalidCharacter []) (made Skipped (made ListsEnded s)) (reported_none page InvalidCharacter [] refl)))
    handed_all (FileOver q) is same e alike = Closing (checked (at_line q.number page) o) refl alike (checked_none (at_line q.number page) o) (makes_pending (FileOver q) tt is same)
    handed_all NothingLeft is same e alike = Same refl alike (all_still sizes r (moves NothingLeft) s refl)

    long_full : (n : ℕ) → sizes.buffer_size < n → refused sizes (buffer n (lines_beneath (extended_pending r.left s.pending).outer) ∷ []) ≡ Some (full_buffer (lines_beneath s.pending.outer) sizes)
    long_full n l = long_refused sizes n (lines_beneath (extended_pending r.left s.pending).outer) [] l ∙ ap (λ (k : ℕ). Some (full_buffer k sizes)) (lines_beneath_same _ s.pending.outer)

    extends_handed : (x : Pulled) → pulled categories s.pending ≡ x → Sight sizes.buffer_size r.left s.pending (other (rests_of x)) x → Extends sizes (rests_of x) r s (moves (other (rests_of x))) (moves x)
    extends_handed x is (Alike e first) = handed_all x is e first (ap moves e ∙ handed_same r.left page enters o onward x)
    extends_handed x is (Long line line' q q' e e' l l') =
        Refused (ap rests_of e) line line' (full_buffer (lines_beneath s.pending.outer) sizes) (ap moves e) (ap moves e')
        (long_refused sizes (line_need s.pending.rest) (lines_beneath s.pending.outer) [] l) (long_full (line_need (extended_pending r.left s.pending).rest) l')

-- THE RULE

-- It pulls nothing, or pulls and goes on without a pull, or begins a file by its name.
pub data Rules (r : Rests) (s : State) (work : List Reading) (ms' ms : List Move) : Type 0 where
  Still : ms' ≡ ms → pulls ms ≡ 0 → Rules r s work ms' ms
  Pulling : (page : Page) → (enters : Bool) → (o : Option Scanning) → (onward : Seen → List Move) → ((x : Seen) → pulls (onward x) ≡ 0) →
      ms ≡ handed page enters o onward (pulled s.groups.now.categories s.pending) → ms' ≡ handed page enters o onward (pulled s.groups.now.categories (extended_pending r.left s.pending)) → Rules r s work ms' ms
  Starting : starts_input work ≡ true → reads ms ≡ 0 → 0 < pulls ms → Rules r s work ms' ms

module _ (r : Rests) (s : State) where
  abbrev Of : List Reading → Reading → Ask → Type 0
  Of work x a = starts a ≡ starts_input work → Rules r s work (answered (extended r s) work x a) (answered s work x a)

  rules_still : (work : List Reading) (x : Reading) (a : Ask) → WantsNone a → answered (extended r s) work x a ≡ answered s work x a → Of work x a
  rules_still work x a h e f = Still e (answered_none s work x a h)

  rules_acts : (work : List Reading) (x : Reading) (c : Call) (e : Effect) (ts : List Token) → Of work x (ActsOn c e ts)
  rules_acts work x c (effect.StartInput back) ts f =
      Starting (sym f) (begun_reads s.files (page_of s) back (file_name (character_codes ts))) (begun_pulls s.files (page_of s) back (file_name (character_codes ts)))
  rules_acts work x c e ts f = rules_still work x (ActsOn c e ts) tt refl f

  rules_answered : (work : List Reading) (x : Reading) (a : Ask) → Of work x a
  rules_answered work x (More want) f =
      Pulling (page_of s) (enters_names want) (scanning work s.gathered) (λ y. wanted (page_of s) want (feeding x y) y) (λ y. wanted_none (page_of s) want (feeding x y) y (kind_none x.kind x.fed y)) refl refl
  rules_answered work x (ActsOn c e ts) f = rules_acts work x c e ts f
  rules_answered work x a f = rules_still work x a tt refl f

  pub rules : (work : List Reading) → Rules r s work (planned (extended r s) work) (planned s work)
  rules [] = Pulling (page_of s) false None (stomach (page_of s)) (stomach_none (page_of s)) refl refl
  rules (x ∷ xs) = rules_answered (x ∷ xs) x (ask x.kind x.fed) refl

-- the moves of a rule by which the innermost file goes
abbrev goes_first : Bool → List ℕ → Rests → Rests
goes_first b gone r = record { left = if b then gone ∷ r.left else r.left; files = r.files }

closes_still : (ms : List Move) → pulls ms ≡ 0 → closes ms ≡ false
closes_still [] h = refl
closes_still (ListsEnded ∷ FileClosed ∷ ms) h = absurd (omega (arith, h))
closes_still (ListsEnded ∷ []) h = refl
closes_still (ListsEnded ∷ m ∷ ms) h = refl
closes_still (m ∷ ms) h = refl

rests_still : (gone : List ℕ) (r : Rests) (ms : List Move) → pulls ms ≡ 0 → rests_before gone ms r ≡ r
rests_still gone r ms h = ap (λ (b : Bool). goes_first b gone r) (closes_still ms h)

module _ (sizes : Sizes) (gone : List ℕ) (r : Rests) (s : State) where
  handed_left : (page : Page) (enters : Bool) (o : Option Scanning) (onward : Seen → List Move) (x : Pulled) → rests_before gone (handed page enters o onward x) r ≡ rests_of sizes gone r s x
  handed_left page enters o onward (TokenFrom t q) = refl
  handed_left page enters o onward (LexemeFrom x q) = refl
  handed_left page enters o onward (LineTaken line q) = refl
  handed_left page enters o onward (InvalidMet q) = refl
  handed_left page enters o onward (FileOver q) = refl
  handed_left page enters o onward NothingLeft = refl

  abbrev here : Pulled
  here = pulled s.groups.now.categories s.pending

  abbrev IsSeen : Type 0
  IsSeen = Sight sizes.buffer_size r.left s.pending (pulled s.groups.now.categories (extended_pending (before gone here r.left) s.pending)) here

  -- where what is pulled is seen, if it is by this rule
  extends_rule : (r' : Rests) (ms' ms : List Move) → r' ≡ rests_before gone ms r → starts_input s.work ≡ false → Rules r' s s.work ms' ms →
      ((page : Page) (enters : Bool) (o : Option Scanning) (onward : Seen → List Move) → ms ≡ handed page enters o onward here → IsSeen) → Extends sizes r' r s ms' ms
  extends_rule r' ms' ms at never (Still e none) sees = Same (at ∙ rests_still gone r ms none) e (all_still sizes r ms s none)
  extends_rule r' ms' ms at never (Starting begins none some) sees = absurd (true≢false (sym begins ∙ never))
  extends_rule r' ms' ms at never (Pulling page enters o onward still e e') sees =
      let there : r' ≡ rests_of sizes gone r s here = at ∙ ap (λ (x : List Move). rests_before gone x r) e ∙ handed_left page enters o onward here in
      let known : Extends sizes (rests_of sizes gone r s here) r s (handed page enters o onward (other sizes gone r s (rests_of sizes gone r s here))) (handed page enters o onward here) =
      extends_handed sizes gone r s page enters o onward still here refl (sees page enters o onward e) in
      let placed : Extends sizes r' r s (handed page enters o onward (other sizes gone r s r')) (handed page enters o onward here) =
      subst (λ (b : Rests). Extends sizes b r s (handed page enters o onward (other sizes gone r s b)) (handed page enters o onward here)) (sym there) known in
      subst (λ (x : List Move). Extends sizes r' r s x ms) (sym e') (subst (λ (x : List Move). Extends sizes r' r s (handed page enters o onward (other sizes gone r s r')) x) (sym e) placed)

not_both : (o : Option Full) (full : Full) → o ≡ Some full → o ≡ None → ⊥
not_both o full e e' = absurd (cc)

pub no_refusal : (sizes : Sizes) (why : Broken) (m : Move) (at : State) → m ≡ ListsEnded → Refuses sizes why m at → ⊥
no_refusal sizes (broken.Full full) m at e h = not_both None full (subst (λ (x : Move). refusal sizes x at ≡ Some full) e h) refl
no_refusal sizes broken.WriteFault m at e h = subst IsOutside e h
no_refusal sizes broken.Want m at e h = subst IsOutside e h

no_refusal_closed : (sizes : Sizes) (why : Broken) (m : Move) (at : State) → m ≡ FileClosed → Refuses sizes why m at → ⊥
no_refusal_closed sizes (broken.Full full) m at e h = not_both None full (subst (λ (x : Move). refusal sizes x at ≡ Some full) e h) refl
no_refusal_closed sizes broken.WriteFault m at e h = subst IsOutside e h
no_refusal_closed sizes broken.Want m at e h = subst IsOutside e h

module _ (sizes : Sizes) (r' r : Rests) (s : State) where
  -- A LINE THAT IS TOO LONG

  long_did : (line : List ℕ) (full : Full) (ms : List Move) → ms ≡ ListsEnded ∷ Taken line ∷ [] → refusal sizes (Taken line) (made ListsEnded s) ≡ Some full → AllFit sizes ms s → ⊥
  long_did line full ms e refused fits =
      let both : AllFit sizes (ListsEnded ∷ Taken line ∷ []) s = subst (λ (x : List Move). AllFit sizes x s) e fits in
      not_both (refusal sizes (Taken line) (made ListsEnded s)) full refused both.1.0

  taken_refuses : (why : Broken) (line line' : List ℕ) (full : Full) (at : State) → made ListsEnded s ≡ at → refusal sizes (Taken line) (made ListsEnded s) ≡ Some full →
      refusal sizes (Taken line') (made ListsEnded (extended r s)) ≡ Some full → Refuses sizes why (Taken line) at → Refuses sizes why (Taken line') (extended r at)
  taken_refuses (broken.Full full') line line' full at stands e e' h =
      let there : refusal sizes (Taken line') (extended r at) ≡ Some full = subst (λ (x : State). refusal sizes (Taken line') (extended r x) ≡ Some full) stands e' in
      there ∙ sym (subst (λ (x : State). refusal sizes (Taken line) x ≡ Some full) stands e) ∙ h
  taken_refuses broken.WriteFault line line' full at stands e e' h = absurd h
  taken_refuses broken.Want line line' full at stands e e' h = absurd h

  long_cut : (line line' : List ℕ) (full : Full) (at : State) (w w' : World) (why : Broken) (done : List Move) (m : Move) (rest : List Move) (count : ℕ) →
      refusal sizes (Taken line) (made ListsEnded s) ≡ Some full → refusal sizes (Taken line') (made ListsEnded (extended r s)) ≡ Some full →
      ListsEnded ∷ Taken line ∷ [] ≡ done ++ m ∷ rest → made_all done s ≡ at → AllFit sizes done s → Refuses sizes why m at → IsCause why w w' → Wrote w w' (done ++ front_of count m) →
      Cut sizes (extended r s) (extended r at) w w' (ListsEnded ∷ Taken line' ∷ []) why
  long_cut line line' full at w w' why [] m rest count e e' all state fits refuses cause written = absurd (no_refusal sizes why m at (cc) refuses)
  long_cut line line' full at w w' why (d ∷ []) m rest count e e' all state fits refuses cause written =
      let settles : d ≡ ListsEnded = cc in
      let takes : m ≡ Taken line = cc in
      let here : made ListsEnded s ≡ at = ap (λ (x : Move). made x s) (sym settles) ∙ state in
      record {
        done = ListsEnded ∷ [];
        m = Taken line';
        rest = [];
        count = 0;
        all = refl;
        state = ap (extended r) here;
        fits = (refl, tt);
        refuses = taken_refuses why line line' full at here e e' (subst (λ (x : Move). Refuses sizes why x at) takes refuses);
        cause = cause;
        written = subst (λ (x : Move). Wrote w w' (x ∷ [])) settles (subst (λ (x : Move). Wrote w w' (d ∷ front_of count x)) takes written);
      }
  long_cut line line' full at w w' why (d ∷ x ∷ done) m rest count e e' all state fits refuses cause written =
      let settles : d ≡ ListsEnded = cc in
      let takes : x ≡ Taken line = cc in
      let none : refusal sizes (Taken line) (made ListsEnded s) ≡ None = subst (λ (y : Move). refusal sizes y (made ListsEnded s) ≡ None) takes (subst (λ (y : Move). refusal sizes x (made y s) ≡ None) settles fits.1.0) in
      absurd (not_both (refusal sizes (Taken line) (made ListsEnded s)) full e none)

  -- THE FILE GOES

  module _ (rest : List Move) (none : pulls rest ≡ 0) (makes : made FileClosed (made ListsEnded (extended r' s)) ≡ extended r (made FileClosed (made ListsEnded s))) where
    abbrev closing : List Move
    closing = ListsEnded ∷ FileClosed ∷ rest

    abbrev behind : State
    behind = made FileClosed (made ListsEnded s)

    closing_did : (s' : State) (w w' : World) → Did sizes s s' w w' closing → Did sizes (extended r' s) (extended r s') w w' closing
    closing_did s' w w' d =
        let agree : AllAgree sizes r rest behind = all_still sizes r rest behind none in
        record {
          state = ap (made_all rest) makes ∙ all_makes sizes r rest behind agree ∙ ap (extended r) d.state;
          fits = (refl, (refl, subst (AllFit sizes rest) (sym makes) (all_fit sizes r rest behind agree d.fits.1.1)));
          written = d.written;
        }

    -- behind the file's end
    closing_at : (at : State) (w w' : World) (why : Broken) (done : List Move) (m : Move) (more : List Move) (count : ℕ) → rest ≡ done ++ m ∷ more →
        (made_all (ListsEnded ∷ FileClosed ∷ done) s ≡ at) × (AllFit sizes (ListsEnded ∷ FileClosed ∷ done) s × Wrote w w' (ListsEnded ∷ FileClosed ∷ done ++ front_of count m)) →
        Refuses sizes why m at → IsCause why w w' → Cut sizes (extended r' s) (extended r at) w w' closing why
    closing_at at w w' why done m more count all parts refuses cause =
        let agree : AllAgree sizes r (done ++ m ∷ more) behind = subst (λ (x : List Move). AllAgree sizes r x behind) all (all_still sizes r rest behind none) in
        let first : AllAgree sizes r done behind = first_agree sizes r done (m ∷ more) behind agree in
        let here : Agrees sizes r m at = subst (Agrees sizes r m) parts.0 (next_agrees sizes r done m more behind agree) in
        record {
          done = ListsEnded ∷ FileClosed ∷ done;
          m = m;
          rest = more;
          count = count;
          all = ap (λ (x : List Move). ListsEnded ∷ FileClosed ∷ x) all;
          state = ap (made_all done) makes ∙ all_makes sizes r done behind first ∙ ap (extended r) parts.0;
          fits = (refl, (refl, subst (AllFit sizes done) (sym makes) (all_fit sizes r done behind first parts.1.0.1.1)));
          refuses = refuses_agrees sizes r why m at here refuses;
          cause = cause;
          written = parts.1.1;
        }

    closing_cut : (at : State) (w w' : World) (why : Broken) (done : List Move) (m : Move) (more : List Move) (count : ℕ) → closing ≡ done ++ m ∷ more →
        made_all done s ≡ at → AllFit sizes done s → Refuses sizes why m at → IsCause why w w' → Wrote w w' (done ++ front_of count m) → Cut sizes (extended r' s) (extended r at) w w' closing why
    closing_cut at w w' why [] m more count all state fits refuses cause written = absurd (no_refusal sizes why m at (cc) refuses)
    closing_cut at w w' why (d ∷ []) m more count all state fits refuses cause written = absurd (no_refusal_closed sizes why m at (cc) refuses)
    closing_cut at w w' why (d ∷ x ∷ done) m more count all state fits refuses cause written =
        let first : d ≡ ListsEnded = cc in
        let second : x ≡ FileClosed = cc in
        let same : rest ≡ done ++ m ∷ more = cc in
        let lists : d ∷ x ∷ done ≡ ListsEnded ∷ FileClosed ∷ done = cc (first, second) in
        closing_at at w w' why done m more count same (subst (λ (y : List Move). (made_all y s ≡ at) × (AllFit sizes y s × Wrote w w' (y ++ front_of count m))) lists (state, (fits, written))) refuses cause

  did_rule : (ms' ms : List Move) → Extends sizes r' r s ms' ms → (s' : State) (w w' : World) → Did sizes s s' w w' ms → Did sizes (extended r' s) (extended r s') w w' ms'
  did_rule ms' ms (Same at e h) s' w w' d =
      subst (λ (b : Rests). Did sizes (extended b s) (extended r s') w w' ms') (sym at) (subst (λ (x : List Move). Did sizes (extended r s) (extended r s') w w' x) (sym e) (did_agrees sizes r ms s s' w w' h d))
  did_rule ms' ms (Closing rest is e none makes) s' w w' d =
      subst (λ (x : List Move). Did sizes (extended r' s) (extended r s') w w' x) (sym (e ∙ is)) (closing_did rest none makes s' w w' (subst (λ (x : List Move). Did sizes s s' w w' x) is d))
  did_rule ms' ms (Refused at line line' full e e' f f') s' w w' d = absurd (long_did line full ms e f d.fits)

  steps_rule : (ms' ms : List Move) → Extends sizes r' r s ms' ms → steps ms' ≡ steps ms
  steps_rule ms' ms (Same at e h) = ap steps e
  steps_rule ms' ms (Closing rest is e none makes) = ap steps e
  steps_rule ms' ms (Refused at line line' full e e' f f') = rw (e, e') refl

  cut_rule : (ms' ms : List Move) → Extends sizes r' r s ms' ms → (at : State) (w w' : World) (why : Broken) → Cut sizes s at w w' ms why → Cut sizes (extended r' s) (extended r at) w w' ms' why
  cut_rule ms' ms (Same same e h) at w w' why c =
      subst (λ (b : Rests). Cut sizes (extended b s) (extended r at) w w' ms' why) (sym same) (subst (λ (x : List Move). Cut sizes (extended r s) (extended r at) w w' x why) (sym e) (cut_agrees sizes r ms s at w w' why h c))
  cut_rule ms' ms (Closing rest is e none makes) at w w' why c =
      subst (λ (x : List Move). Cut sizes (extended r' s) (extended r at) w w' x why) (sym (e ∙ is))
      (closing_cut rest none makes at w w' why c.done c.m c.rest c.count (sym is ∙ c.all) c.state c.fits c.refuses c.cause c.written)
  cut_rule ms' ms (Refused same line line' full e e' f f') at w w' why c =
      subst (λ (b : Rests). Cut sizes (extended b s) (extended r at) w w' ms' why) (sym same) (subst (λ (x : List Move). Cut sizes (extended r s) (extended r at) w w' x why) (sym e')
      (long_cut line line' full at w w' why c.done c.m c.rest c.count f f' (sym e ∙ c.all) c.state c.fits c.refuses c.cause c.written))

  -- A STEP COMES

  plan_extended : s.stopped ≡ None → s.pending.next ≡ None → plan (extended r' s) (extended r' s).stopped ≡ planned (extended r' s) s.work
  plan_extended stops unopened = ap (plan (extended r' s)) stops ∙ ap (λ (o : Option (List ℕ)). ruled (extended r' s) (next_extended r'.left o)) unopened

  step_rule : (m : Move) (rest ms' ms : List Move) → s.due ≡ [] → s.stopped ≡ None → s.pending.next ≡ None → planned (extended r' s) s.work ≡ ms' → ms ≡ ListsEnded ∷ m ∷ rest → step_of m ≡ 1 → Extends sizes r' r s ms' ms →
      StepComes sizes (extended r' s)
  step_rule m rest ms' ms none stops unopened plans is one (Same at e h) = plan_needs sizes (extended r' s) m rest none (plan_extended stops unopened ∙ plans ∙ e ∙ is) one
  step_rule m rest ms' ms none stops unopened plans is one (Closing more was e still makes) = plan_needs sizes (extended r' s) m rest none (plan_extended stops unopened ∙ plans ∙ e ∙ is) one
  step_rule m rest ms' ms none stops unopened plans is one (Refused at line line' full e e' f f') = plan_needs sizes (extended r' s) (Taken line') [] none (plan_extended stops unopened ∙ plans ∙ e') refl

module _ (sizes : Sizes) (s : State) where
  next_is : (ms : List Move) → s.due ≡ [] → s.stopped ≡ None → s.pending.next ≡ None → planned s s.work ≡ ms → next s ≡ first_of_plan s ms
  unfolding next
  next_is ms none stops unopened plans =
      ap (next_of s) none ∙ ap (λ (o : Option Outcome). first_of_plan s (plan s o)) stops ∙ ap (λ (o : Option (List ℕ)). first_of_plan s (ruled s o)) unopened ∙ ap (first_of_plan s) plans

  first_handed : (page : Page) (enters : Bool) (o : Option Scanning) (onward : Seen → List Move) (r : Pulled) (m : Move) (ms : List Move) → handed page enters o onward r ≡ m ∷ ms → step_of m ≡ 0
  first_handed page enters o onward (TokenFrom t q) m ms e = let first : m ≡ ListsEnded = cc in ap step_of first
  first_handed page enters o onward (LexemeFrom x q) m ms e = let first : m ≡ ListsEnded = cc in ap step_of first
  first_handed page enters o onward (LineTaken line q) m ms e = let first : m ≡ ListsEnded = cc in ap step_of first
  first_handed page enters o onward (InvalidMet q) m ms e = let first : m ≡ ListsEnded = cc in ap step_of first
  first_handed page enters o onward (FileOver q) m ms e = let first : m ≡ ListsEnded = cc in ap step_of first
  first_handed page enters o onward NothingLeft m ms e = let first : m ≡ ListsEnded = cc in ap step_of first

  -- nothing more is left
  abbrev same_rests : Rests
  same_rests = record { left = []; files = s.files }

  first_rule : (work : List Reading) (ms' ms : List Move) → Rules same_rests s work ms' ms → (m : Move) (rest : List Move) → ms ≡ m ∷ rest → step_of m ≡ 0
  first_rule work ms' ms (Still e none) m rest is = omega (arith, steps_pull ms, none, ap steps is)
  first_rule work ms' ms (Starting begins none some) m rest is = omega (arith, steps_read ms, none, ap steps is)
  first_rule work ms' ms (Pulling page enters o onward still e e') m rest is = first_handed page enters o onward (pulled s.groups.now.categories s.pending) m rest (sym e ∙ is)

  -- no rule begins with a step, where no file was opened
  first_silent : (m : Move) (rest : List Move) → planned s s.work ≡ m ∷ rest → step_of m ≡ 0
  first_silent m rest is = first_rule s.work (planned (extended same_rests s) s.work) (planned s s.work) (rules same_rests s s.work) m rest is

  step_next : (m : Move) (u : State) → next s ≡ Goes m u → NeedsStep s → step_of m ≡ 1
  step_next m u goes n =
      let step : next s ≡ Goes n.0 n.1.0 = n.1.1.0 in
      let same : n.0 ≡ m = cc in
      subst (λ (x : Move). step_of x ≡ 1) same n.1.1.1

  no_need : s.due ≡ [] → s.stopped ≡ None → s.pending.next ≡ None → NeedsStep s → ⊥
  no_need none stops unopened n = by_plan (planned s s.work) refl where
    by_plan : (ms : List Move) → planned s s.work ≡ ms → ⊥
    by_plan [] plans =
        let goes : next s ≡ Goes n.0 n.1.0 = n.1.1.0 in
        let ends : next s ≡ Ends = next_is [] none stops unopened plans in
        absurd (cc)
    by_plan (m ∷ ms) plans = omega (arith, step_next m (made m (record s { due = ms })) (next_is (m ∷ ms) none stops unopened plans) n, first_silent m ms plans)

-- a rule with a step as its second move
record StepSecond (s : State) : Type 0 where
  m : Move
  rest : List Move
  plans : planned s s.work ≡ ListsEnded ∷ m ∷ rest
  one : step_of m ≡ 1

module _ (sizes : Sizes) (s : State) (none : s.due ≡ []) (stops : s.stopped ≡ None) (unopened : s.pending.next ≡ None) (c : StepComes sizes s) where
  step_second : StepSecond s
  step_second = by_plan (planned s s.work) refl where
    goes : next s ≡ Goes ListsEnded c.moves.0
    goes = c.moves.1.0

    behind : (d : Move) (ms : List Move) → planned s s.work ≡ d ∷ ms → (d ≡ ListsEnded) × NeedsStep (made ListsEnded (record s { due = ms }))
    behind d ms plans =
        let first : next s ≡ Goes d (made d (record s { due = ms })) = next_is sizes s (d ∷ ms) none stops unopened plans in
        let both : next s ≡ Goes ListsEnded c.moves.0 = goes in
        let settles : d ≡ ListsEnded = cc in
        let state : made d (record s { due = ms }) ≡ c.moves.0 = cc in
        let there : c.t ≡ made ListsEnded (record s { due = ms }) = sym (c.moves.1.1.1) ∙ sym state ∙ ap (λ (x : Move). made x (record s { due = ms })) settles in
        (settles, subst NeedsStep there c.needs)

    by_plan : (ms : List Move) → planned s s.work ≡ ms → StepSecond s
    by_plan [] plans =
        let ends : next s ≡ Ends = next_is sizes s [] none stops unopened plans in
        let first : next s ≡ Goes ListsEnded c.moves.0 = goes in
        absurd (cc)
    by_plan (d ∷ []) plans = absurd (no_need sizes (made ListsEnded (record s { due = [] })) refl stops unopened (behind d [] plans).1)
    by_plan (d ∷ m ∷ rest) plans =
        let u : State = made ListsEnded (record s { due = m ∷ rest }) in
        let both : (d ≡ ListsEnded) × NeedsStep u = behind d (m ∷ rest) plans in
        record {
          m = m;
          rest = rest;
          plans = plans ∙ ap (λ (x : Move). x ∷ m ∷ rest) both.0;
          one = step_next sizes u m (made m (record u { due = rest })) (next_due u m rest refl) both.1;
        }

-- ONE RULE

module _ (sizes : Sizes) (s : State) (gone : List ℕ) (r : Rests) (reads : Reads sizes s gone r) where
  -- what is left before it
  abbrev first : Rests
  first = rests_before gone (planned s s.work) r

  seen_by : (page : Page) (enters : Bool) (o : Option Scanning) (onward : Seen → List Move) → planned s s.work ≡ handed page enters o onward (here sizes gone r s) → IsSeen sizes gone r s
  seen_by page enters o onward e =
      sight sizes.buffer_size s.groups.now.categories gone r.left s.pending reads.none_opened
      (subst (λ (b : Rests). IsReady sizes.buffer_size s.groups.now.categories s.pending (first_left b.left)) (ap (λ (x : List Move). rests_before gone x r) e ∙ handed_left sizes gone r s page enters o onward (here sizes gone r s)) reads.ready)

  extends : Extends sizes first r s (planned (extended first s) s.work) (planned s s.work)
  extends = extends_rule sizes gone r s first (planned (extended first s) s.work) (planned s s.work) refl reads.no_start (rules first s s.work) seen_by

  -- All its moves, done.
  pub extended_did : (s' : State) (w w' : World) → Did sizes s s' w w' (planned s s.work) → Did sizes (extended first s) (extended r s') w w' (planned (extended first s) s.work)
  extended_did = did_rule sizes first r s (planned (extended first s) s.work) (planned s s.work) extends

  -- Its steps.
  pub extended_steps : steps (planned (extended first s) s.work) ≡ steps (planned s s.work)
  extended_steps = steps_rule sizes first r s (planned (extended first s) s.work) (planned s s.work) extends

  -- Its moves, cut off.
  pub extended_cut : (at : State) (w w' : World) (why : Broken) → Cut sizes s at w w' (planned s s.work) why → Cut sizes (extended first s) (extended r at) w w' (planned (extended first s) s.work) why
  extended_cut = cut_rule sizes first r s (planned (extended first s) s.work) (planned s s.work) extends

  -- A step comes.
  pub extended_comes : s.due ≡ [] → s.stopped ≡ None → StepComes sizes s → StepComes sizes (extended first s)
  extended_comes none stops c =
      let second : StepSecond s = step_second sizes s none stops reads.none_opened c in
      step_rule sizes first r s second.m second.rest (planned (extended first s) s.work) (planned s s.work) none stops reads.none_opened refl second.plans second.one extends

-- A RULE THAT PULLS NOTHING

pulls_nothing : (page : Page) (enters : Bool) (o : Option Scanning) (onward : Seen → List Move) (r : Pulled) → pulls (handed page enters o onward r) ≡ 0 → r ≡ NothingLeft
pulls_nothing page enters o onward (TokenFrom t q) h = absurd (omega (arith, h))
pulls_nothing page enters o onward (LexemeFrom x q) h = absurd (omega (arith, h))
pulls_nothing page enters o onward (LineTaken line q) h = absurd (omega (arith, h))
pulls_nothing page enters o onward (InvalidMet q) h = absurd (omega (arith, h))
pulls_nothing page enters o onward (FileOver q) h = absurd (omega (arith, h))
pulls_nothing page enters o onward NothingLeft h = refl

-- Nothing of the files need be known then.
module _ (sizes : Sizes) (s : State) (r : Rests) (unopened : s.pending.next ≡ None) (still : pulls (planned s s.work) ≡ 0) where
  still_rule : (ms' ms : List Move) → Rules r s s.work ms' ms → pulls ms ≡ 0 → Extends sizes r r s ms' ms
  still_rule ms' ms (Still e none) h = Same refl e (all_still sizes r ms s none)
  still_rule ms' ms (Starting begins none some) h = absurd (omega (arith, some, h))
  still_rule ms' ms (Pulling page enters o onward goes_on e e') h =
      let none : pulled s.groups.now.categories s.pending ≡ NothingLeft = pulls_nothing page enters o onward (pulled s.groups.now.categories s.pending) (sym (ap pulls e) ∙ h) in
      let none' : pulled s.groups.now.categories (extended_pending r.left s.pending) ≡ NothingLeft = nothing_left s.groups.now.categories r.left s.pending unopened none in
      Same refl (e' ∙ ap (handed page enters o onward) (none' ∙ sym none) ∙ sym e) (all_still sizes r ms s h)

  still_extends : Extends sizes r r s (planned (extended r s) s.work) (planned s s.work)
  still_extends = still_rule (planned (extended r s) s.work) (planned s s.work) (rules r s s.work) still

  pub unread_did : (s' : State) (w w' : World) → Did sizes s s' w w' (planned s s.work) → Did sizes (extended r s) (extended r s') w w' (planned (extended r s) s.work)
  unread_did = did_rule sizes r r s (planned (extended r s) s.work) (planned s s.work) still_extends

  pub unread_steps : steps (planned (extended r s) s.work) ≡ steps (planned s s.work)
  unread_steps = steps_rule sizes r r s (planned (extended r s) s.work) (planned s s.work) still_extends

  pub unread_cut : (at : State) (w w' : World) (why : Broken) → Cut sizes s at w w' (planned s s.work) why → Cut sizes (extended r s) (extended r at) w w' (planned (extended r s) s.work) why
  unread_cut = cut_rule sizes r r s (planned (extended r s) s.work) (planned s s.work) still_extends

-- MOVES THAT READ NO FILE

still_none : (m : Move) → IsStill m → pull_of m ≡ 0
still_none (Handed t) h = absurd h
still_none (Taken line) h = absurd h
still_none (FirstTaken line) h = absurd h
still_none Skipped h = absurd h
still_none FileClosed h = absurd h
still_none (FileOpened name) h = absurd h
still_none m h = refl

are_still : (ms : List Move) → AreStill ms → pulls ms ≡ 0
are_still [] h = refl
are_still (m ∷ ms) h = omega (arith, still_none m h.0, are_still ms h.1)

pub moves_did : (sizes : Sizes) (s s' : State) (r : Rests) (ms : List Move) → AreStill ms → (w w' : World) → Did sizes s s' w w' ms → Did sizes (extended r s) (extended r s') w w' ms
moves_did sizes s s' r ms still w w' d = still_did sizes r ms s s' w w' (are_still ms still) d

pub moves_cut : (sizes : Sizes) (s at : State) (r : Rests) (ms : List Move) (why : Broken) → AreStill ms → (w w' : World) → Cut sizes s at w w' ms why → Cut sizes (extended r s) (extended r at) w w' ms why
moves_cut sizes s at r ms why still w w' c = still_cut sizes r ms s at w w' why (are_still ms still) c
