-- Rules that begin with the file's next reading.
use Rattle.std.proofs.Common.{◌≡◌, ℕ, Bool, List, [], ◌∷◌, refl, sym, subst, true, false}
use Rattle.std.specs.Prelude.{◌≢◌, Option, None}
use Rattle.std.proofs.lemmas.Bool.{false≢true}
use Rattle.tex_syntax.specs.declared.words.Want.{Want}
use Rattle.tex_defs.specs.declared.Seen.{Seen}
use Rattle.plain_tokens.specs.Lex.{Lexed, Gives as Lexes, Invalid, UsedUp, lexed}
use Rattle.plain_tokens.specs.Puts.{Item, Put, passed}
use Rattle.plain_tokens.specs.Pending.{Pending, Progress, Begun, Closed, Pulled, pulled, from_begun, from_file, from_line, from_list, from_front, takes_file}
use Rattle.rows.specs.Readings.{Ask, More}
use Rattle.plain_readings.specs.Readings.{Reading, ask}
use Rattle.plain_readings.specs.Scanning.{Scanning, scanning}
use Rattle.plain_machine.specs.States.{State, Move}
use Rattle.plain_machine.specs.Plan.{Page, page_of, enters_names, feeding, wanted, stomach, handed, answered, planned}
use Rattle.plain_machine.specs.Does.{ReadsFile}

-- a token is wanted: by the stomach, where no reading is open, or by the innermost reading
abbrev pub WantsToken : List Reading → Type 0
WantsToken [] = Unit {0}
WantsToken (r ∷ rs) = (want : Want) × (ask r.kind r.fed ≡ More want)

-- where nothing is left in front, the file gives what is pulled
module _ (categories : List ℕ) (p : Pending) where
  line_takes : (l : Lexed) → takes_file (from_line p l) ≡ true → from_line p l ≡ from_file p p.file
  line_takes (Lexes x state line) h = absurd (false≢true h)
  line_takes (Invalid state line) h = absurd (false≢true h)
  line_takes UsedUp h = refl

  list_takes : (x : Put) (ps : List Put) (is : List Item) → takes_file (from_list categories p x ps is) ≡ true → from_list categories p x ps is ≡ from_file p p.file
  list_takes x ps [] h = line_takes (lexed categories p.lex p.line) h
  list_takes x ps (i ∷ is) h = absurd (false≢true h)

  front_takes : (ps : List Put) → takes_file (from_front categories p ps) ≡ true → from_front categories p ps ≡ from_file p p.file
  front_takes [] h = line_takes (lexed categories p.lex p.line) h
  front_takes (x ∷ ps) h = list_takes x ps x.items h

  pub file_gives : takes_file (pulled categories p) ≡ true → pulled categories p ≡ from_file p p.file
  file_gives h = front_takes (passed p.puts) h

module _ (page : Page) (enters : Bool) (s : Option Scanning) (onward : Seen → List Move) where
  abbrev Reads : Pulled → Type 0
  Reads r = ReadsFile (handed page enters s onward r)

  begun_reads : (p : Pending) (ends : Bool) (bytes : List ℕ) → Reads (from_begun p ends bytes)
  begun_reads p true bytes = tt
  begun_reads p false [] = tt
  begun_reads p false (c ∷ cs) = tt

  file_reads : (p : Pending) (file : Progress) → file ≢ Closed → Reads (from_file p file)
  file_reads p Begun is_open = begun_reads p p.ends p.rest
  file_reads p Closed is_open = absurd (is_open refl)

  pulled_reads : (categories : List ℕ) (p : Pending) → takes_file (pulled categories p) ≡ true → p.file ≢ Closed → Reads (pulled categories p)
  pulled_reads categories p takes is_open = subst Reads (sym (file_gives categories p takes)) (file_reads p p.file is_open)

-- where a token is wanted, nothing is left in front of the file, and the file is open
pub wanted_reads : (t : State) (work : List Reading) → WantsToken work → takes_file (pulled t.groups.now.categories t.pending) ≡ true → t.pending.file ≢ Closed → ReadsFile (planned t work)
wanted_reads t [] wants takes is_open = pulled_reads (page_of t) false None (stomach (page_of t)) t.groups.now.categories t.pending takes is_open
wanted_reads t (r ∷ rs) wants takes is_open = subst (λ (a : Ask). ReadsFile (answered t (r ∷ rs) r a)) (sym wants.1) (pulled_reads (page_of t) (enters_names wants.0) (scanning (r ∷ rs) t.gathered) (λ x. wanted (page_of t) wants.0 (feeding r x) x) t.groups.now.categories t.pending takes is_open)
