-- What the engine knows is enough for the next rule, and where it isn't, the files are needed.
use Rattle.std.proofs.Common.{◌≡◌, ◌∙◌, ℕ, ◌<◌, List, [], ◌∷◌, length, refl, sym, ap, subst, arith, inl, inr, true, false}
use Rattle.std.specs.Prelude.{Bool, Option, None, Some}
use Rattle.tex_defs.specs.Places.{World}
use Rattle.tex_defs.specs.declared.Sizes.{Sizes}
use Rattle.plain_tokens.specs.Lines.{has_feed}
use Rattle.plain_tokens.specs.Lex.{Lexed, Gives, Invalid, UsedUp, lexed}
use Rattle.plain_tokens.specs.Puts.{Item, Put, passed}
use Rattle.plain_tokens.specs.Pending.{Pending, Progress, Begun, Closed, Pulled, TokenFrom, LexemeFrom, LineTaken, InvalidMet, FileOver, NothingLeft, pulled, takes_file, from_front, from_list, from_line, from_file, from_begun}
use Rattle.plain_machine.specs.States.{State}
use Rattle.plain_machine.specs.Plan.{plan, ruled}
use Rattle.plain_machine.specs.Does.{ReadAt, ReadsFile, ForBytes}
use Rattle.plain_machine.specs.Extended as plain
use Rattle.plain_machine.specs.Extended.{Rests, Reads, IsReady, InFront, NoFile, ToEnd, HasLine, NoMore, TooLong, IsFirstReady, HasFirst, NoMoreBytes, FirstTooLong, extended_pending, next_extended, rests_before}
use Rattle.plain_machine.specs.Numbers.{pending_of, pulled_of}
use Rattle.plain_machine.proofs.Doing.{wrote_none}
use Rattle.plain_machine.proofs.FileRules.{wanted_reads}
use Rattle.plain_machine.proofs.Renumbering.{pulled_same}
use Rattle.input_state.specs.NextBytes.{KnowsNext, KnowsFirst}
use Rattle.input_state.specs.NextBytes as next
use Rattle.line_reader.specs.Readers as readers
use Rattle.line_reader.specs.Readers.{OpenReader, MayLeave}
use Rattle.engine_state.specs.declared.engine.Engine.{Engine}
use Rattle.engine_state.specs.Book.{Book}
use Rattle.engine_state.specs.Calls.{AllStand}
use Rattle.engine_state.specs.Rules.{plan_of}
use Rattle.engine_state.specs.Stands.{state_of}
use Rattle.engine_state.specs.Steps.{asks_now, wants_token, asks_start}
use Rattle.stomach.specs.Ahead.{IsGiven, Knows, IsNext, IsFirst, HasEnded, WantsNone, Needs, Lacks, LacksLine, LacksFirst}
use Rattle.stomach.specs.Ran.{UnreadBy, ForLine, whole_state}
use Rattle.stomach.proofs.GivenBytes.{stands_given, state_given}
use Rattle.stomach.proofs.Running.{IsKnown}
use Rattle.stomach.proofs.Unread.{plan_unread, work_wants, starts_same}

-- what is left of the innermost file, in the machine's words
pub first_same : (left : List (List ℕ)) → plain.first_left left ≡ readers.first_left left
first_same [] = refl
first_same (bytes ∷ left) = refl

none_left : (r : OpenReader) (outer rs : List OpenReader) (left : List (List ℕ)) → rs ≡ r ∷ outer → r.ended ≡ true → MayLeave rs left → plain.first_left left ≡ []
none_left r outer rs left is ended may = first_same left ∙ (subst (λ (x : List OpenReader). MayLeave x left) is may).0 ended

not_both : (o : Option (List ℕ)) (bytes : List ℕ) → o ≡ None → o ≡ Some bytes → ⊥
not_both o bytes a b = absurd cc

same_bytes : (o : Option (List ℕ)) (a b : List ℕ) → o ≡ Some a → o ≡ Some b → a ≡ b
same_bytes o a b is is' = some_same a b (sym is ∙ is') where
  some_same : (a b : List ℕ) → Some a ≡ Some b → a ≡ b
  some_same a b h = cc

-- NOTHING IS LEFT IN FRONT OF THE FILES

takes_numbered : (number : ℕ → ℕ) (r : Pulled) → takes_file (pulled_of number r) ≡ takes_file r
takes_numbered number (TokenFrom t q) = refl
takes_numbered number (LexemeFrom x q) = refl
takes_numbered number (LineTaken l q) = refl
takes_numbered number (InvalidMet q) = refl
takes_numbered number (FileOver q) = refl
takes_numbered number NothingLeft = refl

takes_same : (number : ℕ → ℕ) (categories : List ℕ) (p : Pending) → takes_file (pulled categories (pending_of number p)) ≡ takes_file (pulled categories p)
takes_same number categories p = ap takes_file (pulled_same number categories p) ∙ takes_numbered number (pulled categories p)

begun_takes : (p : Pending) (ends : Bool) (rest : List ℕ) → takes_file (from_begun p ends rest) ≡ true
begun_takes p true rest = refl
begun_takes p false [] = refl
begun_takes p false (c ∷ cs) = refl

file_takes : (p : Pending) (f : Progress) → takes_file (from_file p f) ≡ true
file_takes p Begun = begun_takes p p.ends p.rest
file_takes p Closed = refl

module _ (categories : List ℕ) (left : List (List ℕ)) (p : Pending) where
  abbrev more : Pending
  more = extended_pending left p

  line_takes : (l : Lexed) → takes_file (from_line more l) ≡ takes_file (from_line p l)
  line_takes (Gives x state line) = refl
  line_takes (Invalid state line) = refl
  line_takes UsedUp = file_takes more more.file ∙ sym (file_takes p p.file)

  list_takes : (x : Put) (ps : List Put) (is : List Item) → takes_file (from_list categories more x ps is) ≡ takes_file (from_list categories p x ps is)
  list_takes x ps [] = line_takes (lexed categories p.lex p.line)
  list_takes x ps (i ∷ is) = refl

  front_takes : (ps : List Put) → takes_file (from_front categories more ps) ≡ takes_file (from_front categories p ps)
  front_takes [] = line_takes (lexed categories p.lex p.line)
  front_takes (x ∷ ps) = list_takes x ps x.items

  extended_takes : takes_file (pulled categories more) ≡ takes_file (pulled categories p)
  extended_takes = front_takes (passed p.puts)

-- THE NEXT RULE'S READING IS KNOWN

module _ (sizes : Sizes) (e : Engine) (book : Book) (stands : AllStand sizes e book) where
  abbrev Ready : List ℕ → Type 0
  Ready left = IsReady sizes.buffer_size (state_of e book).groups.now.categories (state_of e book).pending left

  next_ready : (left : List ℕ) → KnowsNext e.input → Ready left
  next_ready left (next.InFront h) = InFront (takes_same book.number e.input.groups.now.categories e.input.pending ∙ h)
  next_ready left (next.NoFile h) = NoFile h
  next_ready left (next.Ends h) = ToEnd h
  next_ready left (next.HasLine h) = HasLine h
  next_ready left (next.TooLong h) = TooLong (subst (λ (x : Sizes). x.buffer_size < length e.input.pending.rest) stands.sound.sized.input h)

  module _ (gone : List ℕ) (left : Rests) (unopened : e.input.pending.next ≡ None) (never : asks_start (asks_now e) ≡ false) where
    abbrev left_then : List (List ℕ)
    left_then = (rests_before gone (plan_of e book) left).left

    reads_by : Ready (plain.first_left left_then) → Reads sizes (state_of e book) gone left
    reads_by ready = record { none_opened = unopened; no_start = starts_same sizes e book stands ∙ never; ready = ready }

    pub is_known : (rs : List OpenReader) → Knows e rs → MayLeave rs left_then → IsKnown sizes e gone left book
    is_known rs (IsNext none h) may = inl (reads_by (next_ready (plain.first_left left_then) h))
    is_known rs (IsFirst bytes is h) may = absurd (not_both e.input.pending.next bytes unopened is)
    is_known rs (HasEnded r outer is ended) may = inl (reads_by (NoMore (none_left r outer rs left_then is ended may)))
    is_known rs (WantsNone none h) may = inr (unopened, plan_unread sizes e h never book stands)

    -- its next reading, where it wants a token
    pub reads_known : (rs : List OpenReader) → Knows e rs → wants_token (asks_now e) ≡ true → MayLeave rs left_then → Reads sizes (state_of e book) gone left
    reads_known rs (IsNext none h) wants may = reads_by (next_ready (plain.first_left left_then) h)
    reads_known rs (IsFirst bytes is h) wants may = absurd (not_both e.input.pending.next bytes unopened is)
    reads_known rs (HasEnded r outer is ended) wants may = reads_by (NoMore (none_left r outer rs left_then is ended may))
    reads_known rs (WantsNone none h) wants may = absurd (cc (h, wants))

  -- the first line of a file that was opened
  first_ready : (bytes left : List ℕ) → e.input.pending.next ≡ Some bytes → KnowsFirst e.input → IsFirstReady sizes.buffer_size bytes left
  first_ready bytes left is (next.NoNext none) = absurd (not_both e.input.pending.next bytes none is)
  first_ready bytes left is (next.HasFirstLine some at h) = HasFirst (subst (λ (x : List ℕ). has_feed x ≡ true) (same_bytes e.input.pending.next some bytes at is) h)
  first_ready bytes left is (next.FirstTooLong some at h) =
      FirstTooLong (subst (λ (x : Sizes). x.buffer_size < length bytes) stands.sound.sized.input (subst (λ (x : List ℕ). e.input.sizes.buffer_size < length x) (same_bytes e.input.pending.next some bytes at is) h))

  pub first_known : (rs : List OpenReader) (bytes : List ℕ) (left : Rests) → e.input.pending.next ≡ Some bytes → Knows e rs → MayLeave rs left.left → IsFirstReady sizes.buffer_size bytes (plain.first_left left.left)
  first_known rs bytes left is (IsNext none h) may = absurd (not_both e.input.pending.next bytes none is)
  first_known rs bytes left is (IsFirst some at h) may = first_ready bytes (plain.first_left left.left) is h
  first_known rs bytes left is (HasEnded r outer at ended) may = NoMoreBytes (none_left r outer rs left.left at ended may)
  first_known rs bytes left is (WantsNone none h) may = absurd (not_both e.input.pending.next bytes none is)

-- SOMETHING OF THE FILES IS NEEDED

module _ (sizes : Sizes) (e : Engine) (left : Rests) (book : Book) (stands : AllStand sizes e book) where
  abbrev here : State
  here = whole_state left e book

  opened_reads : (o : Option (List ℕ)) (bytes : List ℕ) → o ≡ Some bytes → ReadsFile (ruled here (next_extended left.left o))
  opened_reads None bytes is = absurd cc
  opened_reads (Some some) bytes is = tt

  reads_file : Lacks e → ReadsFile (plan here here.stopped)
  reads_file (LacksLine none wants needs) = subst (λ (o : Option (List ℕ)). ReadsFile (ruled here (next_extended left.left o))) (sym none)
      (wanted_reads here book.work (work_wants sizes e wants book stands)
      (extended_takes e.input.groups.now.categories left.left (pending_of book.number e.input.pending) ∙ (takes_same book.number e.input.groups.now.categories e.input.pending ∙ needs.at_file)) needs.not_closed)
  reads_file (LacksFirst needs) = opened_reads e.input.pending.next needs.bytes needs.is

  -- a moment at which the next bytes of a file are needed
  read_at : Lacks e → (w : World) (n : ℕ) → ReadAt sizes here n here w w
  read_at lacks w n = record { ms = []; moves = refl; within = omega arith; needs = ForBytes refl (reads_file lacks); written = wrote_none w }

-- where they didn't come
pub unread : (sizes : Sizes) (e e' : Engine) (all left : Rests) (w : World) (n : ℕ) → IsGiven all left e e' → (rs : List OpenReader) → Needs e' rs → (book : Book) → AllStand sizes e book → UnreadBy sizes (whole_state all e book) n e' left w w
unread sizes e e' all left w n is rs needs book stands =
    let t : State = whole_state left e' book in
    let stands' : AllStand sizes e' book = stands_given sizes all left e e' is book stands in
    record {
      t = t;
      read = subst (λ (s : State). ReadAt sizes s n t w w) (sym (state_given sizes all left e e' is book)) (read_at sizes e' left book stands' needs.lacks w n);
      at = record { book' = book; stands = stands'; same = refl };
      unread = ForLine refl needs.lacks;
    }
