-- The list that is made grows.
use Rattle.std.specs.Prelude.{◌≡◌, ℕ, Bool, List, [], ◌++◌, map, if◌then◌else◌}
use Rattle.tex_defs.specs.Places.{World}
use Rattle.tex_defs.specs.declared.Full.{Full}
use Rattle.tex_defs.specs.declared.Sizes.{Sizes}
use Rattle.tex_defs.specs.declared.Token.{Token}
use Rattle.plain_tokens.specs.Meanings.{meaning_to_let}
use Rattle.plain_tokens.specs.Numerals.{whole_number, roman}
use Rattle.plain_tokens.specs.Printed.{meaning_text}
use Rattle.plain_state.specs.Reports.{string_text}
use Rattle.equivalents.specs.declared.values.Loc.{Loc}
use Rattle.equivalents.specs.Cases.{case_codes, case_changed}
use Rattle.equivalents.specs.Locations.{value_seen}
use Rattle.equivalents.specs.Tables.{Tables, get}
use Rattle.rows.specs.Internal.{is_fetchable, value_text}
use Rattle.plain_machine.specs.declared.broken.Broken.TheVariants as broken
use Rattle.plain_machine.specs.Plan.{Page, style_of, job_in, meaning_characters, shared_tokens}
use Rattle.plain_machine.specs.States.{Move, ListGrown}
use Rattle.plain_machine.specs.Does.{Did}
use Rattle.input_state.specs.AtLocations.{appended_made}
use Rattle.input_state.specs.Stored.{Stored, KeepsShared}
use Rattle.reading_frames.specs.Views.{kept_list_of}
use Rattle.engine_state.specs.declared.engine.Engine.{Engine}
use Rattle.engine_state.specs.declared.text.Made.{Made}
use Rattle.engine_state.specs.declared.text.Made.TheVariants as make
use Rattle.engine_state.specs.Book.{Book}
use Rattle.engine_state.specs.Stands.{IsSound, SameFrames, SameOthers, SameStore, state_of, page_of, own_style}
use Rattle.plain_machine.specs.Weights.{pending_weight}
use Rattle.engine_state.specs.Rules.{Cuts}

-- it has grown by them
pub record HasGrown (i j : Stored) (ts : List Token) : Type 0 where
  pub is : j ≡ record i { making = appended_made ts i.making; lists = j.lists }
  pub keeps : KeepsShared i j
  pub did : (sizes : Sizes) (e : Engine) (w : World) (book : Book) → IsSound sizes (record e { input = i }) book.number book.all_lists →
      Did sizes (state_of (record e { input = i }) book) (state_of (record e { input = j }) book) w w (map ListGrown ts)

-- it has no room for one of them
pub record GrowsNot (i j : Stored) (ts : List Token) (full : Full) : Type 0 where
  pub is : j ≡ record i { making = j.making; lists = j.lists }
  pub keeps : KeepsShared i j
  pub cuts : (sizes : Sizes) (e : Engine) (w : World) (book : Book) (more : List Move) → IsSound sizes (record e { input = i }) book.number book.all_lists →
      Cuts sizes (state_of (record e { input = i }) book) (record e { input = j }) book w w (map ListGrown ts ++ more) (broken.Full full)

-- WHAT STAYS where a list is put in front: the readings, the tables, the file and the line, and each macro that is held
pub record IsInFront (e e' : Engine) : Type 0 where
  pub frames : SameFrames e e'
  pub others : SameOthers e e'
  pub store : SameStore e.input e'.input
  pub light : pending_weight e'.input.pending ≡ pending_weight e.input.pending
  pub page : (book : Book) → page_of e' book ≡ page_of e book

-- WHAT A TEXT IS MADE OF

-- what stands at a location; of one that isn't there nothing
abbrev pub text_at : Tables → Loc → List ℕ
text_at m l = if is_fetchable l then value_text l (value_seen (get m l)) else []

-- its characters, by what the machine has
abbrev pub characters_of : Page → Made → List ℕ
characters_of page make.JobName = job_in page.strings
characters_of page (make.Number n) = whole_number n
characters_of page (make.Roman n) = roman n
characters_of page (make.Spelling t) = string_text (style_of page) t
characters_of page (make.Meaning x) = meaning_characters page x
characters_of page (make.Value l) = text_at page.now l

-- and by what the engine has, where shared lists have other numbers
abbrev pub characters_in : Engine → Made → List ℕ
characters_in e make.JobName = job_in e.names.others
characters_in e (make.Number n) = whole_number n
characters_in e (make.Roman n) = roman n
characters_in e (make.Spelling t) = string_text (own_style e) t
characters_in e (make.Meaning x) = meaning_text (own_style e) (shared_tokens e.input.lists) (meaning_to_let e.input.groups.now.meanings x)
characters_in e (make.Value l) = text_at e.input.groups.now l

-- THE CASE OF CHARACTERS

-- the list on top, if it is listed, as `\uppercase` or `\lowercase` changes it
abbrev pub changed_list : (upper listed : Bool) → Stored → List Token
changed_list upper listed i = map (case_changed (case_codes upper i.groups.now)) (kept_list_of listed i.builds)
