-- Whether a token or a line comes next.
use Rattle.std.proofs.Common.{◌≡◌, ℕ, ◌<◌, ◌≤◌, ◌⊎◌, List, [], ◌∷◌, Option, None, Some, refl, sym, ap, ap₂, subst, ◌∙◌, inl, inr, length, Bool, true, false, arith}
use Rattle.std.specs.Prelude.{nat_le, ◌&&◌, not}
use Rattle.std.proofs.lemmas.Bool.Decides.{nat_tests}
use Rattle.plain_tokens.specs.Lex as lex
use Rattle.plain_tokens.specs.Lex.{lexed}
use Rattle.plain_tokens.specs.Puts.{Item, Put, passed, passed_top, without_gaps}
use Rattle.plain_tokens.specs.Lines.{has_feed}
use Rattle.plain_tokens.specs.Pending.{Pending, Progress, Begun, Closed, NothingLeft, pulled, takes_file, from_front, from_list, from_line, from_file, from_begun, file_over, line_taken}
use Rattle.line_lexer.specs.declared.Ahead.{Ahead}
use Rattle.line_lexer.specs.declared.Ahead.TheVariants as ahead
use Rattle.line_lexer.specs.Answers.{looks_of}
use Rattle.input_state.specs.Reads.{gives_step}
use Rattle.input_state.specs.HeldLists.{HeldLists, pending_of, ahead_of, front_ahead}
use Rattle.input_state.specs.Stored.{Stored}
use Rattle.input_state.specs.InputViews.{stored_of}
use Rattle.input_state.specs.declared.file.Step.{Step}
use Rattle.input_state.specs.declared.file.Step.TheVariants as step
use Rattle.input_state.specs.FileLeft.{FileLeft, FilesLeft, file_step, step_of, is_line, lacks_next, lacks_first}
use Rattle.input_state.specs.NextBytes.{KnowsNext, NoFile, Ends, HasLine, TooLong, NeedsBytes, KnowsFirst, NoNext, HasFirstLine, FirstTooLong, NeedsFirst}

-- WHAT COMES

line_token : (p : Pending) (x : lex.Lexed) → looks_of x ≡ ahead.Token → gives_step (from_line p x) ≡ true
line_token p (lex.Gives x state line) is = refl
line_token p (lex.Invalid state line) is = cc
line_token p lex.UsedUp is = cc

line_used : (x : lex.Lexed) → looks_of x ≡ ahead.End → x ≡ lex.UsedUp
line_used (lex.Gives x state line) is = cc
line_used (lex.Invalid state line) is = cc
line_used lex.UsedUp is = refl

-- a list that isn't passed has an item
top_left : (p x : Put) (xs : List Item) (below rest qs : List Put) → (below ≡ x ∷ qs → 0 < length x.items) → passed_top p xs below rest ≡ x ∷ qs → 0 < length x.items
top_left p x [] below rest qs more e = more e
top_left p x (y ∷ ys) below rest qs more e =
    let same : record { list = p.list; arguments = p.arguments; items = y ∷ ys } ≡ x = cc in
    omega (arith, ap (λ (z : Put). length z.items) same)

head_left : (ps : List Put) (x : Put) (qs : List Put) → passed ps ≡ x ∷ qs → 0 < length x.items
head_left [] x qs e = cc
head_left (p ∷ ps) x qs e = top_left p x (without_gaps p.items) (passed ps) ps qs (head_left ps x qs) e

list_token : (c : List ℕ) (p : Pending) (x : Put) (ps : List Put) (xs : List Item) → 0 < length xs → gives_step (from_list c p x ps xs) ≡ true
list_token c p x ps [] some = absurd (omega (arith, some))
list_token c p x ps (y ∷ ys) some = refl

front_token : (c : List ℕ) (p : Pending) (ps : List Put) → passed p.puts ≡ ps → front_ahead c p ps ≡ ahead.Token → gives_step (from_front c p ps) ≡ true
front_token c p [] e is = line_token p (lexed c p.lex p.line) is
front_token c p (x ∷ ps) e is = list_token c p x ps x.items (head_left p.puts x ps e)

pub token_comes : (c : List ℕ) (p : Pending) → ahead_of c p ≡ ahead.Token → gives_step (pulled c p) ≡ true
token_comes c p is = front_token c p (passed p.puts) refl is

front_used : (c : List ℕ) (p : Pending) (ps : List Put) → front_ahead c p ps ≡ ahead.End → (ps ≡ []) × (from_front c p ps ≡ from_file p p.file)
front_used c p [] is = (refl, ap (from_line p) (line_used (lexed c p.lex p.line) is))
front_used c p (x ∷ ps) is = cc

-- what is a token or a character isn't the end
pub no_end : (a : Ahead) → (a ≡ ahead.Token) ⊎ (a ≡ ahead.Invalid) → a ≡ ahead.End → ⊥
no_end a (inl token) h = let k = sym token ∙ h in cc
no_end a (inr invalid) h = let k = sym invalid ∙ h in cc

-- nothing is left but the file
pub used_up : (c : List ℕ) (p : Pending) → ahead_of c p ≡ ahead.End → (passed p.puts ≡ []) × (pulled c p ≡ from_file p p.file)
used_up c p is = front_used c p (passed p.puts) is

-- WHETHER THE FILE MUST GIVE MORE

line_in_front : (p : Pending) (x : lex.Lexed) → (looks_of x ≡ ahead.End → ⊥) → takes_file (from_line p x) ≡ false
line_in_front p (lex.Gives x state line) fact = refl
line_in_front p (lex.Invalid state line) fact = refl
line_in_front p lex.UsedUp fact = absurd (fact refl)

list_in_front : (c : List ℕ) (p : Pending) (x : Put) (ps : List Put) (xs : List Item) → 0 < length xs → takes_file (from_list c p x ps xs) ≡ false
list_in_front c p x ps [] some = absurd (omega (arith, some))
list_in_front c p x ps (y ∷ ys) some = refl

lists_in_front : (c : List ℕ) (p : Pending) (ps : List Put) → passed p.puts ≡ ps → (front_ahead c p ps ≡ ahead.End → ⊥) → takes_file (from_front c p ps) ≡ false
lists_in_front c p [] e fact = line_in_front p (lexed c p.lex p.line) fact
lists_in_front c p (x ∷ ps) e fact = list_in_front c p x ps x.items (head_left p.puts x ps e)

-- something is left in front of the file
pub in_front : (c : List ℕ) (p : Pending) → (ahead_of c p ≡ ahead.End → ⊥) → takes_file (pulled c p) ≡ false
in_front c p fact = lists_in_front c p (passed p.puts) refl fact

begun_takes : (p : Pending) (ends : Bool) (rest : List ℕ) → takes_file (from_begun p ends rest) ≡ true
begun_takes p true rest = refl
begun_takes p false [] = refl
begun_takes p false (c ∷ cs) = refl

file_takes : (p : Pending) (f : Progress) → takes_file (from_file p f) ≡ true
file_takes p Begun = begun_takes p p.ends p.rest
file_takes p Closed = refl

at_file : (c : List ℕ) (p : Pending) → ahead_of c p ≡ ahead.End → takes_file (pulled c p) ≡ true
at_file c p is = ap takes_file (used_up c p is).1 ∙ file_takes p p.file

is_few : (n size : ℕ) → nat_le n size ≡ true → n ≤ size
is_few n size is = grind (arith, nat_tests)

is_many : (n size : ℕ) → nat_le n size ≡ false → size < n
is_many n size is = grind (arith, nat_tests)

knows_by : (s : Stored) (ends feed : Bool) → s.pending.ends ≡ ends → has_feed s.pending.rest ≡ feed → (not ends && (not feed && nat_le (length s.pending.rest) s.sizes.buffer_size)) ≡ false → KnowsNext s
knows_by s true feed over line fact = Ends over
knows_by s false true over line fact = HasLine line
knows_by s false false over line fact = TooLong (is_many _ _ fact)

needs_by : (s : Stored) (ends feed : Bool) → ahead_of s.groups.now.categories s.pending ≡ ahead.End → s.pending.file ≡ Begun → s.pending.ends ≡ ends → has_feed s.pending.rest ≡ feed → (not ends && (not feed && nat_le (length s.pending.rest) s.sizes.buffer_size)) ≡ true → NeedsBytes s
needs_by s true feed end file over line fact = cc
needs_by s false true end file over line fact = cc
needs_by s false false end file over line fact = record { at_file = at_file s.groups.now.categories s.pending end; not_closed = λ e. cc; goes_on = over; no_line = line; few = is_few _ _ fact }

knows_first_by : (s : Stored) (bytes : List ℕ) (feed : Bool) → s.pending.next ≡ Some bytes → has_feed bytes ≡ feed → (not feed && nat_le (length bytes) s.sizes.buffer_size) ≡ false → KnowsFirst s
knows_first_by s bytes true is line fact = HasFirstLine bytes is line
knows_first_by s bytes false is line fact = FirstTooLong bytes is (is_many _ _ fact)

needs_first_by : (s : Stored) (bytes : List ℕ) (feed : Bool) → s.pending.next ≡ Some bytes → has_feed bytes ≡ feed → (not feed && nat_le (length bytes) s.sizes.buffer_size) ≡ true → NeedsFirst s
needs_first_by s bytes true is line fact = cc
needs_first_by s bytes false is line fact = record { bytes = bytes; is = is; no_line = line; few = is_few _ _ fact }

-- what is stored, with these files
abbrev with_files : HeldLists → List ℕ → List FileLeft → Option (List ℕ) → Stored
with_files h b fs next = stored_of h b (record { files = fs; next = next; buffer_size = 0; levels = 0 })

module _ (h : HeldLists) (b : List ℕ) where
  knows : (fs : List FileLeft) (next : Option (List ℕ)) → lacks_next fs h.sizes.buffer_size ≡ false → KnowsNext (with_files h b fs next)
  knows [] next fact = NoFile refl
  knows (f ∷ fs) next fact = knows_by (with_files h b (f ∷ fs) next) f.ends (has_feed f.rest) refl refl fact

  needs : (fs : List FileLeft) (next : Option (List ℕ)) → ahead_of h.groups.now.categories (pending_of h b fs next) ≡ ahead.End → lacks_next fs h.sizes.buffer_size ≡ true → NeedsBytes (with_files h b fs next)
  needs [] next end fact = cc
  needs (f ∷ fs) next end fact = needs_by (with_files h b (f ∷ fs) next) f.ends (has_feed f.rest) end refl refl refl fact

  knows_opened : (fs : List FileLeft) (next : Option (List ℕ)) → lacks_first next h.sizes.buffer_size ≡ false → KnowsFirst (with_files h b fs next)
  knows_opened fs None fact = NoNext refl
  knows_opened fs (Some bytes) fact = knows_first_by (with_files h b fs (Some bytes)) bytes (has_feed bytes) refl refl fact

  needs_opened : (fs : List FileLeft) (next : Option (List ℕ)) → lacks_first next h.sizes.buffer_size ≡ true → NeedsFirst (with_files h b fs next)
  needs_opened fs None fact = cc
  needs_opened fs (Some bytes) fact = needs_first_by (with_files h b fs (Some bytes)) bytes (has_feed bytes) refl refl fact

module _ (h : HeldLists) (b : List ℕ) (f : FilesLeft) (s : Stored) (is : stored_of h b f ≡ s) (size : f.buffer_size ≡ h.sizes.buffer_size) where
  -- the next line is known, or won't be taken
  pub knows_next : lacks_next f.files f.buffer_size ≡ false → KnowsNext s
  knows_next fact = subst KnowsNext is (knows h b f.files f.next (ap (lacks_next f.files) (sym size) ∙ fact))

  pub needs_bytes : ahead_of s.groups.now.categories s.pending ≡ ahead.End → lacks_next f.files f.buffer_size ≡ true → NeedsBytes s
  needs_bytes end fact =
      subst (λ (v : Stored). ahead_of v.groups.now.categories v.pending ≡ ahead.End → NeedsBytes v) is (λ e. needs h b f.files f.next e (ap (lacks_next f.files) (sym size) ∙ fact)) end

  pub knows_first : lacks_first f.next f.buffer_size ≡ false → KnowsFirst s
  knows_first fact = subst KnowsFirst is (knows_opened h b f.files f.next (ap (lacks_first f.next) (sym size) ∙ fact))

  pub needs_first : lacks_first f.next f.buffer_size ≡ true → NeedsFirst s
  needs_first fact = subst NeedsFirst is (needs_opened h b f.files f.next (ap (lacks_first f.next) (sym size) ∙ fact))

-- WHAT THE FILE GIVES

-- a step, of which the file gives this
abbrev pub GivesStep : Step → Pending → Type 0
GivesStep step.Nothing p = from_file p p.file ≡ NothingLeft
GivesStep step.Over p = (from_file p p.file ≡ file_over p) × (p.file ≡ Begun)
GivesStep step.Line p = (from_file p p.file ≡ line_taken p p.rest) × (p.file ≡ Begun)

begun_step : (p : Pending) (ends : Bool) (rest : List ℕ) → p.file ≡ Begun → p.ends ≡ ends → p.rest ≡ rest → GivesStep (file_step ends rest) p
begun_step p true rest file over is = (ap (from_file p) file ∙ ap₂ (from_begun p) over is, file)
begun_step p false [] file over is = (ap (from_file p) file ∙ ap₂ (from_begun p) over is, file)
begun_step p false (c ∷ cs) file over is = (ap (from_file p) file ∙ ap₂ (from_begun p) over is ∙ ap (line_taken p) (sym is), file)

files_step : (h : HeldLists) (b : List ℕ) (fs : List FileLeft) (next : Option (List ℕ)) → GivesStep (step_of fs) (pending_of h b fs next)
files_step h b [] next = refl
files_step h b (f ∷ fs) next = begun_step (pending_of h b (f ∷ fs) next) f.ends f.rest refl refl refl

pub step_gives : (h : HeldLists) (b : List ℕ) (f : FilesLeft) (s : Stored) (x : Step) → stored_of h b f ≡ s → x ≡ step_of f.files → GivesStep x s.pending
step_gives h b f s x is same = subst (λ (y : Step). GivesStep y s.pending) (sym same) (subst (λ (v : Stored). GivesStep (step_of f.files) v.pending) is (files_step h b f.files f.next))

step_ready : (p : Pending) (x : Step) → GivesStep x p → is_line x ≡ gives_step (from_file p p.file)
step_ready p step.Nothing gives = sym (ap gives_step gives)
step_ready p step.Over gives = sym (ap gives_step gives.0)
step_ready p step.Line gives = sym (ap gives_step gives.0)

pub ready_is : (h : HeldLists) (b : List ℕ) (f : FilesLeft) (s : Stored) → stored_of h b f ≡ s → is_line (step_of f.files) ≡ gives_step (from_file s.pending s.pending.file)
ready_is h b f s is = step_ready s.pending (step_of f.files) (step_gives h b f s (step_of f.files) is refl)
