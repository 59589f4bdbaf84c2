-- What is pulled where more bytes follow in the files.
use Rattle.std.proofs.Common.{◌≡◌, ℕ, ◌+◌, ◌<◌, ◌≤◌, Bool, true, false, List, [], ◌∷◌, ◌++◌, length, refl, sym, ap, ap₂, ◌∙◌, subst, arith}
use Rattle.std.specs.Prelude.{Option, None, Some, nat_le, fold, if◌then◌else◌}
use Rattle.std.proofs.lemmas.List.{append-nil, length-append}
use Rattle.std.proofs.lemmas.Bool.{false≢true, true≢false, lt-leb}
use Rattle.std.proofs.lemmas.Grind.{common_steps}
use Rattle.tex_defs.specs.declared.Full.{Full}
use Rattle.tex_defs.specs.declared.Sizes.{Sizes}
use Rattle.tex_defs.specs.declared.Table.TheVariants.{BufferSize, InputStackSize, TextInputLevels}
use Rattle.plain_tokens.specs.declared.line_state.LineState.TheVariants.{NewLine}
use Rattle.plain_tokens.specs.Lex.{Lexed, Gives, Invalid, UsedUp, lexed}
use Rattle.plain_tokens.specs.Lines.{has_feed, before_feed, behind_feed, without_last, trimmed, first_bytes, first_line}
use Rattle.plain_tokens.specs.Puts.{Item, Put as PutList, passed, put_levels}
use Rattle.plain_tokens.specs.Pending.{Pending, Source as Open, Progress, Begun as BegunFile, Closed as ClosedFile, Pulled, TokenFrom, LexemeFrom, LineTaken, InvalidMet, FileOver, NothingLeft, next_number, beneath, from_file, from_begun, from_line, from_list, from_front, pulled, takes_file, on_next_line, outer_puts, all_puts}
use Rattle.plain_tokens.specs.Tables.{Demand, outer_levels, file_levels, levels, opened_files, begun_files, line_room, lines_beneath, open_lines, level, text_level, buffer, line_need, spelt_name, refused}
use Rattle.plain_machine.specs.Extended.{first_left, own_left, left_beneath, left_behind, outer_extended, next_extended, extended_pending, IsReady, InFront, NoFile, ToEnd, HasLine, NoMore, TooLong}

-- THE LINES OF A FILE THAT GOES ON

has_more : (xs ys : List ℕ) → has_feed xs ≡ true → has_feed (xs ++ ys) ≡ true
has_more [] ys h = absurd (false≢true h)
has_more (x ∷ xs) ys h = grind (arith, common_steps, has_more xs ys)

before_more : (xs ys : List ℕ) → has_feed xs ≡ true → before_feed (xs ++ ys) ≡ before_feed xs
before_more [] ys h = absurd (false≢true h)
before_more (x ∷ xs) ys h = grind (arith, common_steps, before_more xs ys)

pub behind_more : (xs ys : List ℕ) → has_feed xs ≡ true → behind_feed (xs ++ ys) ≡ behind_feed xs ++ ys
behind_more [] ys h = absurd (false≢true h)
behind_more (x ∷ xs) ys h = grind (arith, common_steps, behind_more xs ys)

first_with : (xs : List ℕ) → has_feed xs ≡ true → first_bytes xs ≡ without_last 13 (before_feed xs)
first_with xs h = ap (λ (b : Bool). if b then without_last 13 (before_feed xs) else before_feed xs) h

-- a whole line stays as it is
pub first_more : (xs ys : List ℕ) → has_feed xs ≡ true → first_bytes (xs ++ ys) ≡ first_bytes xs
first_more xs ys h = first_with (xs ++ ys) (has_more xs ys h) ∙ ap (without_last 13) (before_more xs ys h) ∙ sym (first_with xs h)

-- a line without a feed gets more bytes
before_all : (xs ys : List ℕ) → has_feed xs ≡ false → before_feed (xs ++ ys) ≡ xs ++ before_feed ys
before_all [] ys h = refl
before_all (x ∷ xs) ys h = grind (arith, common_steps, before_all xs ys)

one_less : (xs : List ℕ) → length xs ≤ 1 + length (without_last 13 xs)
one_less [] = omega arith
one_less (c ∷ []) = grind (arith, common_steps)
one_less (c ∷ e ∷ cs) = let h : length (e ∷ cs) ≤ 1 + length (without_last 13 (e ∷ cs)) = one_less (e ∷ cs) in omega (arith, h)

need_least : (bytes : List ℕ) → length (before_feed bytes) ≤ line_need bytes
need_least bytes = elim (has_feed bytes) as (λ b. length (before_feed bytes) ≤ 1 + length {A = ℕ} (if b then without_last 13 (before_feed bytes) else before_feed bytes)) [
  | true ↦ one_less (before_feed bytes)
  | false ↦ omega arith
]

pub long_need : (size : ℕ) (xs ys : List ℕ) → has_feed xs ≡ false → size < length xs → size < line_need (xs ++ ys)
long_need size xs ys h l = omega (arith, l, need_least (xs ++ ys), ap length (before_all xs ys h), length-append xs (before_feed ys))

pub alone_need : (size : ℕ) (xs : List ℕ) → has_feed xs ≡ false → size < length xs → size < line_need xs
alone_need size xs h l = omega (arith, long_need size xs [] h l, ap line_need (append-nil xs))

pub no_more : (xs more : List ℕ) → more ≡ [] → xs ++ more ≡ xs
no_more xs more none = ap (λ (ys : List ℕ). xs ++ ys) none ∙ append-nil xs

pub full_buffer : ℕ → Sizes → Full
full_buffer used sizes = record { table = BufferSize; used = used; size = sizes.buffer_size }

-- where the first demand is for more than the whole buffer
pub long_refused : (sizes : Sizes) (need used : ℕ) (rest : List Demand) → sizes.buffer_size < need → refused sizes (buffer need used ∷ rest) ≡ Some (full_buffer used sizes)
unfolding full_buffer
long_refused sizes need used rest l =
    let no : nat_le (used + need) sizes.buffer_size ≡ false = lt-leb _ _ (omega (arith, l)) in
    ap (λ (b : Bool). if b then refused sizes rest else Some (full_buffer used sizes)) no

-- WHAT THE OTHER BYTES LEAVE

outer_puts_same : (left : List (List ℕ)) (outer : List Open) → outer_puts (outer_extended left outer) ≡ outer_puts outer
outer_puts_same left [] = refl
outer_puts_same left (s ∷ outer) = ap (λ (ps : List PutList). s.puts ++ ps) (outer_puts_same (left_beneath s.file left) outer)

-- what the sources beneath have left
abbrev left_outer : List (List ℕ) → Pending → List (List ℕ)
left_outer left p = left_beneath p.file (left_behind p.next left)

-- the lists in front
pub all_puts_same : (left : List (List ℕ)) (p : Pending) → all_puts (extended_pending left p) ≡ all_puts p
all_puts_same left p = ap (λ (ps : List PutList). p.puts ++ ps) (outer_puts_same (left_outer left p) p.outer)

-- a sum over the sources beneath that sees no rest
sums_same : (f : Open → ℕ) → ((s : Open) (bytes : List ℕ) → f (record s { rest = bytes }) ≡ f s) → (left : List (List ℕ)) (n : ℕ) (outer : List Open) →
    fold (λ a s. a + f s) n (outer_extended left outer) ≡ fold (λ a s. a + f s) n outer
sums_same f same left n [] = refl
sums_same f same left n (s ∷ outer) =
    ap (λ (k : ℕ). fold (λ (a : ℕ) (x : Open). a + f x) (n + k) (outer_extended (left_beneath s.file left) outer)) (same s (s.rest ++ own_left s.file left))
    ∙ sums_same f same (left_beneath s.file left) (n + f s) outer

outer_levels_same : (left : List (List ℕ)) (outer : List Open) → outer_levels (outer_extended left outer) ≡ outer_levels outer
outer_levels_same left outer = sums_same (λ s. file_levels s.file) (λ s bytes. refl) left 0 outer

pub lines_beneath_same : (left : List (List ℕ)) (outer : List Open) → lines_beneath (outer_extended left outer) ≡ lines_beneath outer
lines_beneath_same left outer = sums_same (λ s. line_room s.file s.whole) (λ s bytes. refl) left 0 outer

begun_files_same : (left : List (List ℕ)) (p : Pending) → begun_files (extended_pending left p) ≡ begun_files p
begun_files_same left p = ap (λ (n : ℕ). file_levels p.file + n) (outer_levels_same (left_outer left p) p.outer)

opened_same : (left : List (List ℕ)) (o : Option (List ℕ)) → opened_files (next_extended left o) ≡ opened_files o
opened_same left None = refl
opened_same left (Some bytes) = refl

module _ (left : List (List ℕ)) (p : Pending) where
  pub open_lines_same : open_lines (extended_pending left p) ≡ open_lines p
  open_lines_same = ap (λ (n : ℕ). line_room p.file p.whole + n) (lines_beneath_same (left_outer left p) p.outer)

  levels_same : levels (extended_pending left p) ≡ levels p
  levels_same = ap₂ (λ (ps : List PutList) (n : ℕ). put_levels ps + n) (all_puts_same left p) (begun_files_same left p)

  pub level_same : level (extended_pending left p) ≡ level p
  level_same = ap (λ (n : ℕ). record { table = InputStackSize; used = n; need = 1 }) levels_same

  pub text_level_same : text_level (extended_pending left p) ≡ text_level p
  text_level_same = ap₂ (λ (m n : ℕ). record { table = TextInputLevels; used = m + n; need = 1 }) (opened_same left p.next) (begun_files_same left p)

  pub spelt_same : (name : List ℕ) → spelt_name name (extended_pending left p) ≡ spelt_name name p
  spelt_same name = ap (buffer (length name)) open_lines_same

-- WHAT IS PULLED

abbrev pub extended_pulled : List (List ℕ) → Pulled → Pulled
extended_pulled left (TokenFrom t next) = TokenFrom t (extended_pending left next)
extended_pulled left (LexemeFrom x next) = LexemeFrom x (extended_pending left next)
extended_pulled left (LineTaken line next) = LineTaken line (extended_pending left next)
extended_pulled left (InvalidMet next) = InvalidMet (extended_pending left next)
extended_pulled left (FileOver next) = FileOver (extended_pending left next)
extended_pulled left NothingLeft = NothingLeft

-- what was left before this was pulled, where this is left behind it
abbrev pub before : (gone : List ℕ) → Pulled → List (List ℕ) → List (List ℕ)
before gone (FileOver next) left = gone ∷ left
before gone r left = left

-- where no file was opened
abbrev unopened : Pending → Pending
unopened p = record p { next = None }

-- where it comes from, with more bytes in the files and without
pub data Source (gone : List ℕ) (left : List (List ℕ)) (p : Pending) (r' r : Pulled) : Type 0 where
  Front : takes_file r ≡ false → r' ≡ extended_pulled left r → Source gone left p r' r
  File : r ≡ from_file p p.file → r' ≡ from_file (extended_pending (before gone r left) p) p.file → Source gone left p r' r

module _ (categories : List ℕ) (gone : List ℕ) (left : List (List ℕ)) (p : Pending) where
  abbrev With : (Pending → Pulled) → Type 0
  With pull = Source gone left (unopened p) (pull (extended_pending (before gone (pull (unopened p)) left) (unopened p))) (pull (unopened p))

  source_line : (l : Lexed) → With (λ q. from_line q l)
  source_line (Gives x state line) = Front refl refl
  source_line (Invalid state line) = Front refl refl
  source_line UsedUp = File refl refl

  source_list : (x : PutList) (ps : List PutList) (is : List Item) → With (λ q. from_list categories q x ps is)
  source_list x ps [] = source_line (lexed categories p.lex p.line)
  source_list x ps (i ∷ is) = Front refl refl

  source_front : (ps : List PutList) → With (λ q. from_front categories q ps)
  source_front [] = source_line (lexed categories p.lex p.line)
  source_front (x ∷ ps) = source_list x ps x.items

  abbrev From : Pending → Type 0
  From q = Source gone left q (pulled categories (extended_pending (before gone (pulled categories q) left) q)) (pulled categories q)

  pub source : p.next ≡ None → From p
  source none = subst From (ap (λ (o : Option (List ℕ)). record p { next = o }) (sym none)) (source_front (passed p.puts))

begun_takes : (p : Pending) (ends : Bool) (bytes : List ℕ) → takes_file (from_begun p ends bytes) ≡ true
begun_takes p true bytes = refl
begun_takes p false [] = refl
begun_takes p false (c ∷ cs) = refl

file_takes : (p : Pending) (file : Progress) → takes_file (from_file p file) ≡ true
file_takes p BegunFile = begun_takes p p.ends p.rest
file_takes p ClosedFile = refl

-- WHAT IS PULLED WHERE IT IS KNOWN

abbrev pub takes_line : Pulled → Bool
takes_line (LineTaken line next) = true
takes_line r = false

-- the same, and the same line; or a line that is too long, whatever it is
pub data Sight (size : ℕ) (left : List (List ℕ)) (p : Pending) (r' r : Pulled) : Type 0 where
  Alike : r' ≡ extended_pulled left r → (takes_line r ≡ true → first_bytes (extended_pending left p).rest ≡ first_bytes p.rest) → Sight size left p r' r
  Long : (line line' : List ℕ) → (next next' : Pending) → r ≡ LineTaken line next → r' ≡ LineTaken line' next' →
      size < line_need p.rest → size < line_need (extended_pending left p).rest → Sight size left p r' r

no_line : (r : Pulled) → takes_file r ≡ false → takes_line r ≡ true → ⊥
no_line (LineTaken line next) h k = true≢false h
no_line (TokenFrom t next) h k = false≢true k
no_line (LexemeFrom x next) h k = false≢true k
no_line (InvalidMet next) h k = false≢true k
no_line (FileOver next) h k = false≢true k
no_line NothingLeft h k = false≢true k

-- what is known of an open file, of which these bytes follow
data Known (size : ℕ) (ends : Bool) (rest more : List ℕ) : Type 0 where
  Ended : ends ≡ true → Known size ends rest more
  Whole : has_feed rest ≡ true → Known size ends rest more
  Last : more ≡ [] → Known size ends rest more
  Large : size < length rest → Known size ends rest more

pub beneath_extended : (left : List (List ℕ)) (outer : List Open) → beneath (outer_extended left outer) ≡ extended_pending left (beneath outer)
beneath_extended left [] = refl
beneath_extended left (s ∷ outer) = refl

module _ (size : ℕ) (gone : List ℕ) (left : List (List ℕ)) (p : Pending) where
  -- an open file
  abbrev file_of : Bool → List ℕ → Pending
  file_of ends rest = record p { file = BegunFile; ends = ends; rest = rest; next = None }

  abbrev Seen : Bool → List ℕ → Pulled → Type 0
  Seen ends rest r = Sight size left (file_of ends rest) (from_begun (extended_pending (before gone r left) (file_of ends rest)) ends (rest ++ first_left (before gone r left))) r

  abbrev over : Bool → List ℕ → Pulled
  over ends rest = FileOver (beneath p.outer)

  abbrev more : List ℕ
  more = first_left left

  seen_ends : (rest : List ℕ) → Seen true rest (over true rest)
  seen_ends rest = Alike (ap FileOver (beneath_extended left p.outer)) (λ k. absurd (false≢true k))

  seen_over : gone ≡ [] → Seen false [] (over false [])
  seen_over none =
      Alike (ap (λ (bytes : List ℕ). from_begun (record (extended_pending (bytes ∷ left) (file_of false [])) { rest = gone }) false bytes) none ∙ ap FileOver (beneath_extended left p.outer)) (λ k. absurd (false≢true k))

  -- each line of a file, by its first bytes and the bytes behind it
  abbrev line_from : List ℕ → List ℕ → List ℕ → Pulled
  line_from rest first behind =
      LineTaken (trimmed first) (record (extended_pending left (file_of false rest)) { puts = []; line = trimmed first; lex = NewLine; whole = length (trimmed first); rest = behind; number = next_number p.number })

  seen_line : (c : ℕ) (cs : List ℕ) → first_bytes (c ∷ cs ++ more) ≡ first_bytes (c ∷ cs) → behind_feed (c ∷ cs ++ more) ≡ behind_feed (c ∷ cs) ++ more → Seen false (c ∷ cs) (LineTaken (first_line (c ∷ cs)) (on_next_line (c ∷ cs) (file_of false (c ∷ cs))))
  seen_line c cs e f = Alike (ap (λ (first : List ℕ). line_from (c ∷ cs) first (behind_feed (c ∷ cs ++ more))) e ∙ ap (line_from (c ∷ cs) (first_bytes (c ∷ cs))) f) (λ k. e)

  seen_long : (c : ℕ) (cs : List ℕ) → has_feed (c ∷ cs) ≡ false → size < length (c ∷ cs) → Seen false (c ∷ cs) (LineTaken (first_line (c ∷ cs)) (on_next_line (c ∷ cs) (file_of false (c ∷ cs))))
  seen_long c cs h l = Long (first_line (c ∷ cs)) (first_line (c ∷ cs ++ more)) _ _ refl refl (alone_need size (c ∷ cs) h l) (long_need size (c ∷ cs) more h l)

  seen_large : (c : ℕ) (cs : List ℕ) (b : Bool) → has_feed (c ∷ cs) ≡ b → size < length (c ∷ cs) → Seen false (c ∷ cs) (LineTaken (first_line (c ∷ cs)) (on_next_line (c ∷ cs) (file_of false (c ∷ cs))))
  seen_large c cs true h l = seen_line c cs (first_more (c ∷ cs) more h) (behind_more (c ∷ cs) more h)
  seen_large c cs false h l = seen_long c cs h l

  seen_begun : (ends : Bool) (rest : List ℕ) → Known size ends rest (first_left (before gone (from_begun (file_of ends rest) ends rest) left)) → Seen ends rest (from_begun (file_of ends rest) ends rest)
  seen_begun true rest k = seen_ends rest
  seen_begun false rest (Ended e) = absurd (false≢true e)
  seen_begun false [] (Whole h) = absurd (false≢true h)
  seen_begun false [] (Last none) = seen_over none
  seen_begun false [] (Large l) = absurd (omega (arith, l))
  seen_begun false (c ∷ cs) (Whole h) = seen_line c cs (first_more (c ∷ cs) more h) (behind_more (c ∷ cs) more h)
  seen_begun false (c ∷ cs) (Last none) = seen_line c cs (ap first_bytes (no_more (c ∷ cs) more none)) (ap behind_feed (no_more (c ∷ cs) more none) ∙ sym (no_more (behind_feed (c ∷ cs)) more none))
  seen_begun false (c ∷ cs) (Large l) = seen_large c cs (has_feed (c ∷ cs)) refl l

module _ (size : ℕ) (categories gone : List ℕ) (left : List (List ℕ)) (p : Pending) where
  -- where an open file gives what is pulled
  abbrev FromFile : Pending → Type 0
  FromFile q =
      (r' r : Pulled) → r ≡ from_file q q.file → r' ≡ from_file (extended_pending (before gone r left) q) q.file → Known size q.ends q.rest (first_left (before gone r left)) → Sight size left q r' r

  from_open : FromFile (file_of size gone left p p.ends p.rest)
  from_open r' r e e' k =
      let q : Pending = file_of size gone left p p.ends p.rest in
      let f : Pulled = from_file q BegunFile in
      let known : Known size p.ends p.rest (first_left (before gone f left)) = subst (λ (x : Pulled). Known size p.ends p.rest (first_left (before gone x left))) e k in
      let there : r' ≡ from_file (extended_pending (before gone f left) q) BegunFile = e' ∙ ap (λ (x : Pulled). from_file (extended_pending (before gone x left) q) BegunFile) e in
      subst (λ (x : Pulled). Sight size left q r' x) (sym e) (subst (λ (x : Pulled). Sight size left q x f) (sym there) (seen_begun size gone left p p.ends p.rest known))

  from_begun_file : p.next ≡ None → p.file ≡ BegunFile → FromFile p
  from_begun_file none begun = subst FromFile (ap₂ (λ (f : Progress) (o : Option (List ℕ)). record p { file = f; next = o }) (sym begun) (sym none)) from_open

  from_nothing : (r' r : Pulled) → r ≡ NothingLeft → r' ≡ NothingLeft → Sight size left p r' r
  from_nothing r' r e e' = Alike (e' ∙ ap (extended_pulled left) (sym e)) (λ k. absurd (false≢true (sym (ap takes_line e) ∙ k)))

  from_closed : (r' r : Pulled) → r ≡ from_file p p.file → r' ≡ from_file (extended_pending (before gone r left) p) p.file → p.file ≡ ClosedFile → Sight size left p r' r
  from_closed r' r e e' c = from_nothing r' r (e ∙ ap (from_file p) c) (e' ∙ ap (from_file (extended_pending (before gone r left) p)) c)

  known : (more : List ℕ) → IsReady size categories p more → takes_file (pulled categories p) ≡ true → p.file ≡ BegunFile → Known size p.ends p.rest more
  known more (InFront h) takes begun = absurd (false≢true (sym h ∙ takes))
  known more (NoFile c) takes begun = absurd (cc (begun, c))
  known more (ToEnd e) takes begun = Ended e
  known more (HasLine h) takes begun = Whole h
  known more (NoMore e) takes begun = Last e
  known more (TooLong l) takes begun = Large l

  abbrev Seeing : Type 0
  Seeing = Sight size left p (pulled categories (extended_pending (before gone (pulled categories p) left) p)) (pulled categories p)

  abbrev Ready : Type 0
  Ready = IsReady size categories p (first_left (before gone (pulled categories p) left))

  sight_file : p.next ≡ None → Ready → pulled categories p ≡ from_file p p.file →
      pulled categories (extended_pending (before gone (pulled categories p) left) p) ≡ from_file (extended_pending (before gone (pulled categories p) left) p) p.file → Seeing
  sight_file none ready e e' = by_file p.file refl where
    by_file : (file : Progress) → p.file ≡ file → Seeing
    by_file BegunFile begun = from_begun_file none begun _ _ e e' (known _ ready (ap takes_file e ∙ file_takes p p.file) begun)
    by_file ClosedFile closed = from_closed _ _ e e' closed

  sight_at : p.next ≡ None → Ready → Source gone left p (pulled categories (extended_pending (before gone (pulled categories p) left) p)) (pulled categories p) → Seeing
  sight_at none ready (Front h e) = Alike e (λ k. absurd (no_line (pulled categories p) h k))
  sight_at none ready (File e e') = sight_file none ready e e'

  pub sight : p.next ≡ None → Ready → Seeing
  sight none ready = sight_at none ready (source categories gone left p none)

  -- NOTHING LEFT

  begun_gives : (q : Pending) (ends : Bool) (rest : List ℕ) → from_begun q ends rest ≡ NothingLeft → ⊥
  begun_gives q true rest e = cc
  begun_gives q false [] e = cc
  begun_gives q false (c ∷ cs) e = cc

  nothing_from : (q : Pending) (file : Progress) → from_file p file ≡ NothingLeft → from_file q file ≡ NothingLeft
  nothing_from q BegunFile e = absurd (begun_gives p p.ends p.rest e)
  nothing_from q ClosedFile e = refl

  nothing_at : (r' r : Pulled) → Source gone left p r' r → r ≡ NothingLeft → r' ≡ NothingLeft
  nothing_at r' r (Front h e) none = absurd (true≢false (sym (ap takes_file none) ∙ h))
  nothing_at r' r (File e e') none = e' ∙ nothing_from (extended_pending (before gone r left) p) p.file (sym e ∙ none)

-- where nothing is left, nothing follows
pub nothing_left : (categories : List ℕ) (left : List (List ℕ)) (p : Pending) → p.next ≡ None → pulled categories p ≡ NothingLeft → pulled categories (extended_pending left p) ≡ NothingLeft
nothing_left categories left p none e =
    sym (ap (λ (r : Pulled). pulled categories (extended_pending (before [] r left) p)) e) ∙ nothing_at 0 categories [] left p _ (pulled categories p) (source categories [] left p none) e
