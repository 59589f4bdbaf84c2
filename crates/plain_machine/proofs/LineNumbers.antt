-- The lines' numbers rise only where a line is taken, which is a step.
use Rattle.std.proofs.Common.{◌≡◌, ℕ, ◌+◌, ◌≤◌, ◌<◌, ◌^◌, Bool, true, false, List, [], ◌∷◌, ◌++◌, zero, suc, refl, sym, ap, ◌∙◌, subst, arith}
use Rattle.std.specs.Prelude.{Option, Some, None, All, nat_lt, if◌then◌else◌}
use Rattle.std.proofs.lemmas.Bool.Decides.{nat_tests}
use Rattle.tex_syntax.specs.declared.words.Report.TheVariants.{InvalidCharacter}
use Rattle.tex_syntax.specs.declared.words.Outcome.{Outcome}
use Rattle.tex_defs.specs.declared.Seen.{Seen}
use Rattle.plain_tokens.specs.Lex.{Lexed, Gives, Invalid, UsedUp, lexed}
use Rattle.plain_tokens.specs.Lines.{first_line}
use Rattle.plain_tokens.specs.Lookup.{token_of, new_name}
use Rattle.plain_tokens.specs.Meanings.{met as met_token}
use Rattle.prim_table.specs.Primitives.{primitive_names}
use Rattle.plain_tokens.specs.Printed.{Style}
use Rattle.plain_tokens.specs.Puts.{Item, Put as PutList, passed}
use Rattle.plain_tokens.specs.Pending.{Pending, Source, Progress, Begun as BegunFile, Closed as ClosedFile, Pulled, TokenFrom, LexemeFrom, LineTaken, InvalidMet, FileOver, NothingLeft, next_number, beneath, source_of, begun_by, with_begun, pulled, after_pull, from_front, from_list, from_line, from_begun, from_file}
use Rattle.plain_readings.specs.Scanning.{Scanning}
use Rattle.equivalents.specs.Parameters.{style_in}
use Rattle.plain_machine.specs.States.{State, Move, Handed, Taken, FirstTaken, ListsEnded, Skipped, FileClosed, made}
use Rattle.plain_machine.specs.Plan.{Page, plan, planned, ruled, handed, met, entered, checked, at_line, reported, Ends, Goes, next, job_due}
use Rattle.plain_machine.specs.Runs.{step_of, steps, Moves, Begins, AtRule, AtJob, AreAtMost}
use Rattle.plain_machine.proofs.Joins.{next_due, next_plan, due_kept}
use Rattle.plain_machine.proofs.Laws.{SameMove, goes_one_way}
use Rattle.plain_machine.proofs.Settling.{pulled_settled}
use Rattle.plain_machine.proofs.Pulls.{pulls, read_of, reads, reads_pull, pulls_join, met_none, entered_none, reported_none, checked_none}
use Rattle.plain_machine.proofs.Extending.{Rules, Still, Pulling, Starting, rules}
use Rattle.plain_machine.specs.Extended.{Rests, extended}
use Rattle.plain_readings.specs.Readings.{Reading}

-- THE NUMBERS OF THE OPEN FILES

abbrev Most : ℕ → List Source → Type 0
Most n outer = All (λ s. s.number ≤ n) outer

most_with : (n : ℕ) (s : Source) (outer : List Source) → s.number ≤ n → Most n outer → Most n (s ∷ outer)
most_with n s outer h i zero d l = h
most_with n s outer h i (suc k) d l = i k d (omega (arith, l))

most_later : (m n : ℕ) (outer : List Source) → m ≤ n → Most m outer → Most n outer
most_later m n outer le h k d l = omega (arith, le, h k d l)

pub at_most_later : (m n : ℕ) (p : Pending) → m ≤ n → AreAtMost m p → AreAtMost n p
at_most_later m n p le h = record { top = omega (arith, le, h.top); outer = most_later m n p.outer le h.outer }

-- where the innermost file goes
most_beneath : (n : ℕ) (outer : List Source) → Most n outer → AreAtMost n (beneath outer)
most_beneath n [] h = record { top = omega arith; outer = λ k d l. absurd (omega (arith, l)) }
most_beneath n (s ∷ outer) h = record { top = h 0 s (omega arith); outer = λ k d l. h (suc k) d (omega (arith, l)) }

-- where a file that was opened is begun
begun_most : (n : ℕ) (p : Pending) (o : Option (List ℕ)) → AreAtMost n p → AreAtMost (n + 1) (begun_by o p)
begun_most n p None h = at_most_later n (n + 1) p (omega arith) h
begun_most n p (Some bytes) h = record { top = omega arith; outer = most_with (n + 1) (source_of p) p.outer (omega (arith, h.top)) (most_later n (n + 1) p.outer (omega arith) h.outer) }

-- THE NUMBERS BEHIND A PULL

within_if : (b : Bool) (n : ℕ) → (if b then n + 1 else n) ≤ n + 1
within_if true n = omega arith
within_if false n = omega arith

within_one : (n : ℕ) → next_number n ≤ n + 1
within_one n = within_if (nat_lt n 18446744073709551615) n

is_below : (a b : ℕ) → a < b → nat_lt a b ≡ true
is_below a b h = grind (arith, nat_tests)

one_more : (n : ℕ) → n < 18446744073709551615 → next_number n ≡ n + 1
one_more n h = ap (λ (b : Bool). if b then n + 1 else n) (is_below n 18446744073709551615 h)

module _ (n : ℕ) (p : Pending) (h : AreAtMost n p) where
  abbrev Numbered : Pulled → Type 0
  Numbered (TokenFrom t q) = AreAtMost n q
  Numbered (LexemeFrom x q) = AreAtMost n q
  Numbered (LineTaken line q) = AreAtMost (n + 1) q
  Numbered (InvalidMet q) = AreAtMost n q
  Numbered (FileOver q) = AreAtMost n q
  Numbered NothingLeft = Unit {0}

  numbered_begun : (ends : Bool) (bytes : List ℕ) → Numbered (from_begun p ends bytes)
  numbered_begun true bytes = most_beneath n p.outer h.outer
  numbered_begun false [] = most_beneath n p.outer h.outer
  numbered_begun false (c ∷ cs) = record { top = omega (arith, within_one p.number, h.top); outer = most_later n (n + 1) p.outer (omega arith) h.outer }

  numbered_file : (file : Progress) → Numbered (from_file p file)
  numbered_file BegunFile = numbered_begun p.ends p.rest
  numbered_file ClosedFile = tt

  numbered_line : (l : Lexed) → Numbered (from_line p l)
  numbered_line (Gives x state line) = record { top = h.top; outer = h.outer }
  numbered_line (Invalid state line) = record { top = h.top; outer = h.outer }
  numbered_line UsedUp = numbered_file p.file

  numbered_list : (categories : List ℕ) (x : PutList) (ps : List PutList) (is : List Item) → Numbered (from_list categories p x ps is)
  numbered_list categories x ps [] = numbered_line (lexed categories p.lex p.line)
  numbered_list categories x ps (i ∷ is) = record { top = h.top; outer = h.outer }

  numbered_front : (categories : List ℕ) (ps : List PutList) → Numbered (from_front categories p ps)
  numbered_front categories [] = numbered_line (lexed categories p.lex p.line)
  numbered_front categories (x ∷ ps) = numbered_list categories x ps x.items

  numbered : (categories : List ℕ) → Numbered (pulled categories p)
  numbered categories = numbered_front categories (passed p.puts)

-- the number of a line that is taken
module _ (p : Pending) where
  abbrev Follows : Pulled → Type 0
  Follows (LineTaken line q) = q.number ≡ next_number p.number
  Follows r = Unit {0}

  follows_begun : (ends : Bool) (bytes : List ℕ) → Follows (from_begun p ends bytes)
  follows_begun true bytes = tt
  follows_begun false [] = tt
  follows_begun false (c ∷ cs) = refl

  follows_file : (file : Progress) → Follows (from_file p file)
  follows_file BegunFile = follows_begun p.ends p.rest
  follows_file ClosedFile = tt

  follows_line : (l : Lexed) → Follows (from_line p l)
  follows_line (Gives x state line) = tt
  follows_line (Invalid state line) = tt
  follows_line UsedUp = follows_file p.file

  follows_list : (categories : List ℕ) (x : PutList) (ps : List PutList) (is : List Item) → Follows (from_list categories p x ps is)
  follows_list categories x ps [] = follows_line (lexed categories p.lex p.line)
  follows_list categories x ps (i ∷ is) = tt

  follows_front : (categories : List ℕ) (ps : List PutList) → Follows (from_front categories p ps)
  follows_front categories [] = follows_line (lexed categories p.lex p.line)
  follows_front categories (x ∷ ps) = follows_list categories x ps x.items

-- the move that makes this pull
abbrev MakesPull : Move → Pulled → Type 0
MakesPull (Handed t) (TokenFrom u q) = Unit {0}
MakesPull (Handed t) (LexemeFrom x q) = Unit {0}
MakesPull (Taken line) (LineTaken l q) = Unit {0}
MakesPull Skipped (InvalidMet q) = Unit {0}
MakesPull FileClosed (FileOver q) = Unit {0}
MakesPull m r = ⊥

pull_most : (n : ℕ) (m : Move) (p : Pending) (h : AreAtMost n p) (r : Pulled) → MakesPull m r → Numbered n p h r → AreAtMost (n + step_of m) (after_pull p r)
pull_most n (Handed t) p h (TokenFrom u q) is i = at_most_later n (n + 1) q (omega arith) i
pull_most n (Handed t) p h (LexemeFrom x q) is i = at_most_later n (n + 1) q (omega arith) i
pull_most n (Taken line) p h (LineTaken l q) is i = i
pull_most n Skipped p h (InvalidMet q) is i = at_most_later n (n + 0) q (omega arith) i
pull_most n FileClosed p h (FileOver q) is i = at_most_later n (n + 0) q (omega arith) i
pull_most n m p h r is i = absurd is

taken_number : (line : List ℕ) (p : Pending) (r : Pulled) → MakesPull (Taken line) r → Follows p r → (after_pull p r).number ≡ next_number p.number
taken_number line p (LineTaken l q) h n = n
taken_number line p r h n = absurd h

-- what the move leaves, but for a line's end character
abbrev pulled_by : State → Pending
pulled_by s = after_pull s.pending (pulled s.groups.now.categories s.pending)

made_pull : (m : Move) (s : State) (n : ℕ) → MakesPull m (pulled s.groups.now.categories s.pending) → AreAtMost n (pulled_by s) → AreAtMost n (made m s).pending
made_pull (Handed t) s n h i = i
made_pull (Taken line) s n h i = record { top = i.top; outer = i.outer }
made_pull Skipped s n h i = i
made_pull FileClosed s n h i = i
made_pull m s n h i = absurd h

made_still : (m : Move) (s : State) (n : ℕ) → read_of m ≡ 0 → AreAtMost n s.pending → AreAtMost n (made m s).pending
made_still (Handed t) s n h i = absurd (omega (arith, h))
made_still (Taken line) s n h i = absurd (omega (arith, h))
made_still (FirstTaken line) s n h i = absurd (omega (arith, h))
made_still Skipped s n h i = absurd (omega (arith, h))
made_still FileClosed s n h i = absurd (omega (arith, h))
made_still m s n h i = record { top = i.top; outer = i.outer }

made_first : (line : List ℕ) (s : State) (n : ℕ) → AreAtMost n s.pending → AreAtMost (n + 1) (made (FirstTaken line) s).pending
made_first line s n h = let i : AreAtMost (n + 1) (with_begun s.pending) = begun_most n s.pending s.pending.next h in record { top = i.top; outer = i.outer }

-- ONE MOVE

-- Nothing that is due reads, or its first move does, by what comes next, or begins a file that was opened.
data Waits (s : State) : Type 0 where
  Quiet : reads s.due ≡ 0 → Waits s
  Reads : (m : Move) → (rest : List Move) → s.due ≡ m ∷ rest → reads rest ≡ 0 → MakesPull m (pulled s.groups.now.categories s.pending) → Waits s
  Opens : (line : List ℕ) → (rest : List Move) → s.due ≡ FirstTaken line ∷ rest → reads rest ≡ 0 → Waits s

record Came (s : State) (m : Move) (u : State) : Type 0 where
  waits : Waits u
  within : (n : ℕ) → AreAtMost n s.pending → AreAtMost (n + step_of m) u.pending
  follows : (line : List ℕ) → m ≡ Taken line → u.pending.number ≡ next_number s.pending.number

-- by the first of these moves
abbrev CameBy : State → List Move → Type 0
CameBy s [] = Unit {0}
CameBy s (m ∷ ms) = Came s m (made m (record s { due = ms }))

not_taken : (m : Move) (line : List ℕ) → read_of m ≡ 0 → m ≡ Taken line → ⊥
not_taken m line h e = omega (arith, h, ap read_of e)

still_by : (s : State) (ms : List Move) → reads ms ≡ 0 → CameBy s ms
still_by s [] h = tt
still_by s (m ∷ ms) h =
    let t : State = record s { due = ms } in
    let none : read_of m ≡ 0 = omega (arith, h) in
    record {
      waits = Quiet (ap reads (due_kept m t) ∙ omega (arith, h));
      within = λ n i. at_most_later n (n + step_of m) (made m t).pending (omega arith) (made_still m t n none i);
      follows = λ line e. absurd (not_taken m line none e);
    }

settled_most : (s : State) (ms : List Move) (n : ℕ) → AreAtMost n s.pending → AreAtMost (n + 0) (made ListsEnded (record s { due = ms })).pending
settled_most s ms n h = record { top = omega (arith, h.top); outer = most_later n (n + 0) s.pending.outer (omega arith) h.outer }

module _ (s : State) where
  settled_by : (m : Move) (rest : List Move) → reads rest ≡ 0 → MakesPull m (pulled s.groups.now.categories s.pending) → CameBy s (ListsEnded ∷ m ∷ rest)
  settled_by m rest none makes = record {
    waits = Reads m rest refl none (subst (MakesPull m) (sym (pulled_settled s.groups.now.categories s.pending)) makes);
    within = λ n h. settled_most s (m ∷ rest) n h;
    follows = λ line e. absurd (not_taken ListsEnded line refl e);
  }

  -- moves that pull nothing read nothing
  behind_by : (m : Move) (rest : List Move) → pulls rest ≡ 0 → MakesPull m (pulled s.groups.now.categories s.pending) → CameBy s (ListsEnded ∷ m ∷ rest)
  behind_by m rest none makes = settled_by m rest (omega (arith, none, reads_pull rest)) makes

  handed_by : (page : Page) (enters : Bool) (o : Option Scanning) (onward : Seen → List Move) → ((x : Seen) → pulls (onward x) ≡ 0) →
      (r : Pulled) → r ≡ pulled s.groups.now.categories s.pending → CameBy s (handed page enters o onward r)
  handed_by page enters o onward still (TokenFrom t q) is =
      behind_by (Handed t) (met page o onward (met_token page.now.meanings t)) (met_none page o onward (met_token page.now.meanings t) still) (subst (MakesPull (Handed t)) is tt)
  handed_by page enters o onward still (LexemeFrom x q) is =
      let t = token_of enters page.names x in
      let names : List Move = entered (new_name enters page.names x) in
      let behind : List Move = met page o onward (met_token page.now.meanings t) in
      behind_by (Handed t) (names ++ behind)
      (pulls_join names behind ∙ omega (arith, entered_none (new_name enters page.names x), met_none page o onward (met_token page.now.meanings t) still)) (subst (MakesPull (Handed t)) is tt)
  handed_by page enters o onward still (LineTaken line q) is = behind_by (Taken line) [] refl (subst (MakesPull (Taken line)) is tt)
  handed_by page enters o onward still (InvalidMet q) is = behind_by Skipped (reported page InvalidCharacter []) (reported_none page InvalidCharacter [] refl) (subst (MakesPull Skipped) is tt)
  handed_by page enters o onward still (FileOver q) is = behind_by FileClosed (checked (at_line q.number page) o) (checked_none (at_line q.number page) o) (subst (MakesPull FileClosed) is tt)
  handed_by page enters o onward still NothingLeft is = still_by s (handed page enters o onward NothingLeft) refl

  abbrev same_rests : Rests
  same_rests = record { left = []; files = s.files }

  rule_by : (work : List Reading) (ms' ms : List Move) → Rules same_rests s work ms' ms → CameBy s ms
  rule_by work ms' ms (Still e none) = still_by s ms (omega (arith, none, reads_pull ms))
  rule_by work ms' ms (Starting begins none some) = still_by s ms none
  rule_by work ms' ms (Pulling page enters o onward still e e') = subst (CameBy s) (sym e) (handed_by page enters o onward still (pulled s.groups.now.categories s.pending) refl)

  ruled_by : (o : Option (List ℕ)) → CameBy s (ruled s o)
  ruled_by None = rule_by s.work (planned (extended same_rests s) s.work) (planned s s.work) (rules same_rests s s.work)
  ruled_by (Some bytes) = record {
    waits = Opens (first_line bytes) [] refl refl;
    within = λ n h. settled_most s (FirstTaken (first_line bytes) ∷ []) n h;
    follows = λ line e. absurd (not_taken ListsEnded line refl e);
  }

  plan_by : (o : Option Outcome) → CameBy s (plan s o)
  plan_by None = ruled_by s.pending.next
  plan_by (Some o) = tt

  reads_by : (m : Move) (rest : List Move) → reads rest ≡ 0 → MakesPull m (pulled s.groups.now.categories s.pending) → CameBy s (m ∷ rest)
  reads_by m rest none makes =
      let t : State = record s { due = rest } in
      let r : Pulled = pulled s.groups.now.categories s.pending in
      record {
        waits = Quiet (ap reads (due_kept m t) ∙ none);
        within = λ n h. made_pull m t (n + step_of m) makes (pull_most n m s.pending h r makes (numbered n s.pending h s.groups.now.categories));
        follows = λ line e. taken_by m rest line makes e;
      } where
        taken_by : (m : Move) (rest : List Move) (line : List ℕ) → MakesPull m (pulled s.groups.now.categories s.pending) → m ≡ Taken line → (made m (record s { due = rest })).pending.number ≡ next_number s.pending.number
        taken_by m rest line makes e =
            let there : MakesPull (Taken line) (pulled s.groups.now.categories s.pending) = subst (λ (x : Move). MakesPull x (pulled s.groups.now.categories s.pending)) e makes in
            ap (λ (x : Move). (made x (record s { due = rest })).pending.number) e ∙ taken_number line s.pending (pulled s.groups.now.categories s.pending) there (follows_front s.pending s.groups.now.categories (passed s.pending.puts))

  opens_by : (line : List ℕ) (rest : List Move) → reads rest ≡ 0 → CameBy s (FirstTaken line ∷ rest)
  opens_by line rest none = record {
    waits = Quiet none;
    within = λ n h. made_first line (record s { due = rest }) n h;
    follows = λ l e. absurd (cc);
  }

  due_by : Waits s → (ms : List Move) → s.due ≡ ms → CameBy s ms
  due_by (Quiet none) ms is = still_by s ms (ap reads (sym is) ∙ none)
  due_by (Reads m rest e none makes) ms is = subst (CameBy s) (sym e ∙ is) (reads_by m rest none makes)
  due_by (Opens line rest e none) ms is = subst (CameBy s) (sym e ∙ is) (opens_by line rest none)

ends : (s : State) → s.due ≡ [] → plan s s.stopped ≡ [] → next s ≡ Ends
unfolding next
ends s e f = rw e (rw f refl)

module _ (s u : State) (m : Move) (goes : next s ≡ Goes m u) where
  came_same : (d : Move) (v : State) → SameMove d m v u → Came s d v → Came s m u
  came_same d v same c = subst (λ (x : State). Came s m x) same.state (subst (λ (x : Move). Came s x v) same.move c)

  came_plan : (ms : List Move) → s.due ≡ [] → plan s s.stopped ≡ ms → CameBy s ms → Came s m u
  came_plan [] e f c = let none : next s ≡ Ends = ends s e f in absurd (cc (none, goes))
  came_plan (d ∷ ds) e f c = came_same d (made d (record s { due = ds })) (goes_one_way s _ u d m (next_plan s d ds e f) goes) c

  came_due : Waits s → (ms : List Move) → s.due ≡ ms → Came s m u
  came_due w [] e = came_plan (plan s s.stopped) e refl (plan_by s s.stopped)
  came_due w (d ∷ ds) e = came_same d (made d (record s { due = ds })) (goes_one_way s _ u d m (next_due s d ds e) goes) (due_by s w (d ∷ ds) e)

  came : Waits s → Came s m u
  came w = came_due w s.due refl

-- RUNS

record Counted (s : State) (ms : List Move) (t : State) : Type 0 where
  waits : Waits t
  within : (n : ℕ) → AreAtMost n s.pending → AreAtMost (n + steps ms) t.pending

counted : (s t : State) (ms : List Move) → Waits s → Moves s ms t → Counted s ms t
counted s t [] w h = record { waits = subst Waits h w; within = λ n i. at_most_later n (n + 0) t.pending (omega arith) (subst (λ (x : State). AreAtMost n x.pending) h i) }
counted s t (m ∷ ms) w h =
    let c : Came s m h.0 = came s h.0 m h.1.0 w in
    let rest : Counted h.0 ms t = counted h.0 t ms c.waits h.1.1 in
    record { waits = rest.waits; within = λ n i. at_most_later ((n + step_of m) + steps ms) (n + steps (m ∷ ms)) t.pending (omega arith) (rest.within (n + step_of m) (c.within n i)) }

job_still : (style : Style) (file : List ℕ) (job : Option (List ℕ)) → reads (job_due style file job) ≡ 0
job_still style file None = refl
job_still style file (Some bytes) = refl

begins : (s : State) → Begins s → Waits s
begins s (AtRule e) = Quiet (ap reads e)
begins s (AtJob groups quiet file job files e) = Quiet (ap (λ (x : State). reads x.due) e ∙ job_still (style_in groups.now primitive_names) file job)

pub number_rises : (n : ℕ) (s t : State) (ms : List Move) → Begins s → AreAtMost n s.pending → Moves s ms t → AreAtMost (n + steps ms) t.pending
number_rises n s t ms b most h = (counted s t ms (begins s b) h).within n most

pub line_follows : (n : ℕ) (s t u : State) (ms : List Move) (line : List ℕ) → Begins s → AreAtMost n s.pending → Moves s ms t → next t ≡ Goes (Taken line) u → n + (steps ms + 1) < 2 ^ 64 → u.pending.number ≡ t.pending.number + 1
line_follows n s t u ms line b most h goes few =
    let c : Counted s ms t = counted s t ms (begins s b) h in
    (came t u (Taken line) goes c.waits).follows line refl ∙ one_more t.pending.number (omega (arith, (c.within n most).top, few))
