-- How many files are open behind the moves of a rule: a rule by which no file is opened closes the innermost one, or none.
use Rattle.std.proofs.Common.{◌≡◌, ◌∙◌, ℕ, suc, ◌+◌, Bool, true, false, List, [], ◌∷◌, ◌++◌, refl, sym, ap, ap₂, subst, arith}
use Rattle.std.proofs.lemmas.Bool.{true≢false}
use Rattle.std.proofs.lemmas.List.Sums.{sum_by-cons}
use Rattle.std.specs.Prelude.{Option, None, length, if◌then◌else◌}
use Rattle.tex_defs.specs.declared.Seen.{Seen}
use Rattle.plain_tokens.specs.Lex.{Lexed, Gives, Invalid, UsedUp, lexed}
use Rattle.plain_tokens.specs.Lookup.{new_name, token_of}
use Rattle.plain_tokens.specs.Meanings.{met as met_token}
use Rattle.tex_syntax.specs.declared.words.Report.TheVariants as reports
use Rattle.plain_tokens.specs.Puts.{Item, Put, passed}
use Rattle.plain_tokens.specs.Pending.{Pending, Source, Progress, Begun, Closed, Pulled, TokenFrom, LexemeFrom, LineTaken, InvalidMet, FileOver, NothingLeft, pulled, after_pull, end_token_lists, from_front, from_list, from_line, from_file, from_begun, beneath}
use Rattle.plain_tokens.specs.Tables.{file_levels, open_files}
use Rattle.plain_readings.specs.Scanning.{Scanning}
use Rattle.plain_machine.specs.States.{State, Move, Handed, Taken, FirstTaken, Skipped, FileClosed, FileOpened, ListsEnded, made}
use Rattle.plain_machine.specs.Plan.{Page, handed, met, entered, checked, at_line, reported, planned}
use Rattle.plain_machine.specs.Runs.{made_all, steps}
use Rattle.plain_machine.specs.Extended.{Rests, closes, rests_before, starts_input}
use Rattle.plain_machine.proofs.Extending as extending
use Rattle.plain_machine.proofs.Extending.{rules}
use Rattle.plain_machine.proofs.Pulls.{pull_of, pulls, pulls_join, steps_pull, met_none, checked_none, reported_none, entered_none}
use Rattle.plain_machine.proofs.Settling.{pulled_settled}
use Rattle.stomach.specs.Files.{AreGone}

abbrev pub count : State → ℕ
count s = open_files s.pending

-- MOVES THAT PULL NOTHING

keeps_one : (m : Move) (s : State) → pull_of m ≡ 0 → count (made m s) ≡ count s
keeps_one (Handed t) s h = absurd (omega (arith, h))
keeps_one (Taken line) s h = absurd (omega (arith, h))
keeps_one (FirstTaken line) s h = absurd (omega (arith, h))
keeps_one Skipped s h = absurd (omega (arith, h))
keeps_one FileClosed s h = absurd (omega (arith, h))
keeps_one (FileOpened name) s h = absurd (omega (arith, h))
keeps_one m s h = refl

pub keeps_all : (ms : List Move) (s : State) → pulls ms ≡ 0 → count (made_all ms s) ≡ count s
keeps_all [] s h = refl
keeps_all (m ∷ ms) s h = keeps_all ms (made m s) (omega (arith, h)) ∙ keeps_one m s (omega (arith, h))

keeps_front : (done rest : List Move) (s : State) → pulls (done ++ rest) ≡ 0 → count (made_all done s) ≡ count s
keeps_front done rest s h = keeps_all done s (omega (arith, h, pulls_join done rest))

-- A READING FROM PENDING

abbrev FilesAfter : Pending → Pulled → Type 0
FilesAfter p (TokenFrom t q) = open_files q ≡ open_files p
FilesAfter p (LexemeFrom x q) = open_files q ≡ open_files p
FilesAfter p (LineTaken line q) = open_files q ≡ open_files p
FilesAfter p (InvalidMet q) = open_files q ≡ open_files p
FilesAfter p (FileOver q) = open_files p ≡ suc (open_files q)
FilesAfter p NothingLeft = Unit {0}

module _ (p : Pending) (none : p.next ≡ None) where
  beneath_one : (outer : List Source) → open_files (record p { next = None; file = Begun; outer = outer }) ≡ suc (open_files (beneath outer))
  beneath_one [] = refl
  beneath_one (s ∷ outer) = omega (arith, sum_by-cons (λ (x : Source). file_levels x.file) s outer)

  over_one : p.file ≡ Begun → open_files p ≡ suc (open_files (beneath p.outer))
  over_one is = subst (λ (o : Option (List ℕ)). open_files (record p { next = o }) ≡ suc (open_files (beneath p.outer))) (sym none)
      (subst (λ (f : Progress). open_files (record p { next = None; file = f }) ≡ suc (open_files (beneath p.outer))) (sym is) (beneath_one p.outer))

  begun_after : p.file ≡ Begun → (ends : Bool) (rest : List ℕ) → FilesAfter p (from_begun p ends rest)
  begun_after is true rest = over_one is
  begun_after is false [] = over_one is
  begun_after is false (c ∷ cs) = refl

  file_after : (f : Progress) → p.file ≡ f → FilesAfter p (from_file p f)
  file_after Begun is = begun_after is p.ends p.rest
  file_after Closed is = tt

  line_after : (l : Lexed) → FilesAfter p (from_line p l)
  line_after (Gives x state line) = refl
  line_after (Invalid state line) = refl
  line_after UsedUp = file_after p.file refl

  list_after : (categories : List ℕ) (x : Put) (ps : List Put) (is : List Item) → FilesAfter p (from_list categories p x ps is)
  list_after categories x ps [] = line_after (lexed categories p.lex p.line)
  list_after categories x ps (i ∷ is) = refl

  front_after : (categories : List ℕ) (ps : List Put) → FilesAfter p (from_front categories p ps)
  front_after categories [] = line_after (lexed categories p.lex p.line)
  front_after categories (x ∷ ps) = list_after categories x ps x.items

  pub files_after : (categories : List ℕ) → FilesAfter p (pulled categories p)
  files_after categories = front_after categories (passed p.puts)

-- THE MOVES OF A RULE

-- They pull nothing, or begin with a reading that leaves all files open, or with the end of the innermost one.
pub data Counts (s : State) (ms : List Move) : Type 0 where
  Still : pulls ms ≡ 0 → Counts s ms
  Keeps : (m : Move) → (rest : List Move) → ms ≡ ListsEnded ∷ m ∷ rest → pulls rest ≡ 0 → count (made m (made ListsEnded s)) ≡ count s → closes ms ≡ false → Counts s ms
  Loses : (rest : List Move) → ms ≡ ListsEnded ∷ FileClosed ∷ rest → pulls rest ≡ 0 → count s ≡ suc (count (made FileClosed (made ListsEnded s))) → Counts s ms

module _ (s : State) (none : s.pending.next ≡ None) where
  abbrev here : Pulled
  here = pulled s.groups.now.categories s.pending

  -- what is pending behind a reading, once the finished lists in front have gone
  behind_reading : (x : Pulled) → here ≡ x → open_files (after_pull (end_token_lists s.pending) (pulled s.groups.now.categories (end_token_lists s.pending))) ≡ open_files (after_pull (end_token_lists s.pending) x)
  behind_reading x is = ap (λ (r : Pulled). open_files (after_pull (end_token_lists s.pending) r)) (pulled_settled s.groups.now.categories s.pending ∙ is)

  after : (x : Pulled) → here ≡ x → FilesAfter s.pending x
  after x is = subst (FilesAfter s.pending) is (files_after s.pending none s.groups.now.categories)

  module _ (page : Page) (enters : Bool) (o : Option Scanning) (onward : Seen → List Move) (still : (x : Seen) → pulls (onward x) ≡ 0) where
    handed_counts : (x : Pulled) → here ≡ x → Counts s (handed page enters o onward x)
    handed_counts (TokenFrom t q) is =
        Keeps (Handed t) (met page o onward (met_token page.now.meanings t)) refl (met_none page o onward (met_token page.now.meanings t) still) (behind_reading (TokenFrom t q) is ∙ after (TokenFrom t q) is) refl
    handed_counts (LexemeFrom x q) is =
        let t = token_of enters page.names x in
        let names : List Move = entered (new_name enters page.names x) in
        let moves : List Move = met page o onward (met_token page.now.meanings t) in
        Keeps (Handed t) (names ++ moves) refl (omega (arith, pulls_join names moves, entered_none (new_name enters page.names x), met_none page o onward (met_token page.now.meanings t) still))
        (behind_reading (LexemeFrom x q) is ∙ after (LexemeFrom x q) is) refl
    handed_counts (LineTaken line q) is = Keeps (Taken line) [] refl refl (behind_reading (LineTaken line q) is ∙ after (LineTaken line q) is) refl
    handed_counts (InvalidMet q) is = Keeps Skipped (reported page reports.InvalidCharacter []) refl (reported_none page reports.InvalidCharacter [] refl) (behind_reading (InvalidMet q) is ∙ after (InvalidMet q) is) refl
    handed_counts (FileOver q) is =
        Loses (checked (at_line q.number page) o) refl (checked_none (at_line q.number page) o) (after (FileOver q) is ∙ ap suc (sym (behind_reading (FileOver q) is)))
    handed_counts NothingLeft is = Still refl

  pub plan_counts : starts_input s.work ≡ false → Counts s (planned s s.work)
  plan_counts never = at (rules (record { left = []; files = s.files }) s s.work) where
    at : {ms' : List Move} → extending.Rules (record { left = []; files = s.files }) s s.work ms' (planned s s.work) → Counts s (planned s s.work)
    at (extending.Still e h) = Still h
    at (extending.Pulling page enters o onward still e e') = subst (Counts s) (sym e) (handed_counts page enters o onward still here refl)
    at (extending.Starting begins h k) = absurd (true≢false (sym begins ∙ never))

-- HOW MANY READERS GO

abbrev pub one_if : Bool → ℕ
one_if true = 1
one_if false = 0

still_closes : (ms : List Move) → pulls ms ≡ 0 → closes ms ≡ false
still_closes [] h = refl
still_closes (ListsEnded ∷ FileClosed ∷ ms) h = absurd (omega (arith, h))
still_closes ms h = refl

-- a file that goes is no step
pub closing_is_free : (s : State) (ms : List Move) → Counts s ms → closes ms ≡ true → steps ms ≡ 0
closing_is_free s ms (Still h) is = omega (arith, steps_pull ms, h)
closing_is_free s ms (Keeps m rest e h k stays) is = absurd (true≢false (sym is ∙ stays))
closing_is_free s ms (Loses rest e h k) is = ap steps e ∙ omega (arith, steps_pull rest, h)

abbrev with_gone : Bool → List ℕ → Rests → Rests
with_gone b gone r = record { left = if b then gone ∷ r.left else r.left; files = r.files }

-- nothing goes where nothing is pulled
pub still_before : (gone : List ℕ) (ms : List Move) (r : Rests) → pulls ms ≡ 0 → rests_before gone ms r ≡ r
still_before gone ms r h = ap (λ (b : Bool). with_gone b gone r) (still_closes ms h)

-- nor where the innermost file stays
pub open_before : (gone : List ℕ) (ms : List Move) (r : Rests) → closes ms ≡ false → rests_before gone ms r ≡ r
open_before gone ms r h = ap (λ (b : Bool). with_gone b gone r) h

-- a move at which a rule may be cut off: the first moves of a file's end aren't
abbrev pub MayRefuse : List Move → Type 0
MayRefuse rest = (m : Move) → (tail : List Move) → rest ≡ m ∷ tail → (m ≡ ListsEnded → ⊥) × (m ≡ FileClosed → ⊥)

equal_heads : (m n : Move) (ms ns : List Move) → m ∷ ms ≡ n ∷ ns → m ≡ n
equal_heads m n ms ns is = cc

rest_of : (m n : Move) (ms ns : List Move) → m ∷ ms ≡ n ∷ ns → ms ≡ ns
rest_of m n ms ns is = cc

lost : (s : State) (more done rest : List Move) → MayRefuse rest → ListsEnded ∷ FileClosed ∷ more ≡ done ++ rest → pulls more ≡ 0 → count s ≡ suc (count (made FileClosed (made ListsEnded s))) → count s ≡ suc (count (made_all done s))
lost s more [] [] may is h k = absurd cc
lost s more [] (m ∷ tail) may is h k = absurd ((may m tail refl).0 (sym (equal_heads ListsEnded m (FileClosed ∷ more) tail is)))
lost s more (d ∷ []) [] may is h k = absurd cc
lost s more (d ∷ []) (m ∷ tail) may is h k = absurd ((may m tail refl).1 (sym (equal_heads FileClosed m more tail (rest_of ListsEnded d (FileClosed ∷ more) (m ∷ tail) is))))
lost s more (d ∷ d' ∷ done) rest may is h k =
    let is' = rest_of ListsEnded d (FileClosed ∷ more) (d' ∷ (done ++ rest)) is in
    let first : d ≡ ListsEnded = sym (equal_heads ListsEnded d (FileClosed ∷ more) (d' ∷ (done ++ rest)) is) in
    let second : d' ≡ FileClosed = sym (equal_heads FileClosed d' more (done ++ rest) is') in
    let same : count (made_all done (made FileClosed (made ListsEnded s))) ≡ count (made FileClosed (made ListsEnded s)) = keeps_front done rest (made FileClosed (made ListsEnded s)) (ap pulls (sym (rest_of FileClosed d' more (done ++ rest) is')) ∙ h) in
    k ∙ ap suc (sym same ∙ ap₂ (λ (x y : Move). count (made_all done (made y (made x s)))) (sym first) (sym second))

kept : (s : State) (m : Move) (more done rest : List Move) → ListsEnded ∷ m ∷ more ≡ done ++ rest → pulls more ≡ 0 → count (made m (made ListsEnded s)) ≡ count s → count (made_all done s) ≡ count s
kept s m more [] rest is h k = refl
kept s m more (d ∷ []) rest is h k = ap (λ (x : Move). count (made x s)) (sym (equal_heads ListsEnded d (m ∷ more) rest is))
kept s m more (d ∷ d' ∷ done) rest is h k =
    let is' = rest_of ListsEnded d (m ∷ more) (d' ∷ (done ++ rest)) is in
    let first : d ≡ ListsEnded = sym (equal_heads ListsEnded d (m ∷ more) (d' ∷ (done ++ rest)) is) in
    let second : d' ≡ m = sym (equal_heads m d' more (done ++ rest) is') in
    let same : count (made_all done (made m (made ListsEnded s))) ≡ count (made m (made ListsEnded s)) = keeps_front done rest (made m (made ListsEnded s)) (ap pulls (sym (rest_of m d' more (done ++ rest) is')) ∙ h) in
    ap₂ (λ (x y : Move). count (made_all done (made y (made x s)))) first second ∙ same ∙ k

-- behind the moves of a rule, or the first of them, one file fewer is open, or as many
pub counts_behind : (s : State) (ms done rest : List Move) → Counts s ms → ms ≡ done ++ rest → MayRefuse rest → count s ≡ one_if (closes ms) + count (made_all done s)
counts_behind s ms done rest (Still h) is may =
    let same : count (made_all done s) ≡ count s = keeps_front done rest s (ap pulls (sym is) ∙ h) in
    omega (arith, same, ap one_if (still_closes ms h))
counts_behind s ms done rest (Keeps m more e h k stays) is may =
    let same : count (made_all done s) ≡ count s = kept s m more done rest (sym e ∙ is) h k in
    omega (arith, same, ap one_if stays)
counts_behind s ms done rest (Loses more e h k) is may =
    let same : count s ≡ suc (count (made_all done s)) = lost s more done rest may (sym e ∙ is) h k in
    let one : one_if (closes ms) ≡ 1 = ap (λ (x : List Move). one_if (closes x)) e in
    omega (arith, same, one)

-- what was left before the moves of the rule, where so many files have gone
one_gone : (all left : Rests) (b : Bool) → AreGone all left (one_if b) → (gone : List ℕ) × (all ≡ with_gone b gone left)
one_gone all left true h = at h.gone h.whole h.many where
  at : (gone : List (List ℕ)) → all ≡ record { left = gone ++ left.left; files = left.files } → length gone ≡ 1 → (gone : List ℕ) × (all ≡ with_gone true gone left)
  at [] whole many = absurd (omega (arith, many))
  at (x ∷ []) whole many = (x, whole)
  at (x ∷ y ∷ xs) whole many = absurd (omega (arith, many))
one_gone all left false h = at h.gone h.whole h.many where
  at : (gone : List (List ℕ)) → all ≡ record { left = gone ++ left.left; files = left.files } → length gone ≡ 0 → (gone : List ℕ) × (all ≡ with_gone false gone left)
  at [] whole many = ([], whole)
  at (x ∷ xs) whole many = absurd (omega (arith, many))

pub gone_before : (all left : Rests) (ms : List Move) → AreGone all left (one_if (closes ms)) → (gone : List ℕ) × (all ≡ rests_before gone ms left)
gone_before all left ms h = one_gone all left (closes ms) h
