-- A name means something else.
use Rattle.std.proofs.Common.{◌≡◌, ℕ, List, [], ◌∷◌, ◌++◌, length, Bool, true, false, Option, Some, None, inl, inr, refl, ap, ◌∙◌, subst, ⊎_elim, arith}
use Rattle.std.specs.Prelude.{nat_lt, if◌then◌else◌}
use Rattle.std.proofs.lemmas.Bool.{cases_lt}
use Rattle.std.proofs.lemmas.Bool.Decides.{nat_tests}
use Rattle.std.proofs.lemmas.List.{length-map, length-set}
use Rattle.tex_defs.specs.Places.{World}
use Rattle.tex_defs.specs.declared.Full.{Full}
use Rattle.tex_defs.specs.declared.Meaning.{Meaning}
use Rattle.tex_defs.specs.declared.Meaning.TheVariants as means
use Rattle.tex_defs.specs.declared.Name.{Name}
use Rattle.tex_defs.specs.declared.Seen.{Seen}
use Rattle.tex_defs.specs.declared.Sizes.{Sizes}
use Rattle.plain_tokens.specs.Meanings.{is_listed, location, meaning_to_let}
use Rattle.plain_tokens.specs.Tables.{refused}
use Rattle.equivalents.specs.Groups.{Groups, placed, placed_demands, place_of, set_placed, set_name, name_demands}
use Rattle.equivalents.specs.Holding.{list_of, lists_held}
use Rattle.meanings.specs.Kept.{IsPlaced, without_list}
use Rattle.plain_machine.specs.declared.broken.Broken.{Broken}
use Rattle.plain_machine.specs.declared.broken.Broken.TheVariants as broken
use Rattle.plain_machine.specs.States.{Move, Assigned}
use Rattle.plain_machine.specs.Plan.{Page, put_one}
use Rattle.plain_machine.specs.Numbers.{groups_of, meaning_of, meanings_of}
use Rattle.plain_machine.specs.Does.{Did}
use Rattle.plain_machine.proofs.Doing.{did_join}
use Rattle.plain_machine.proofs.GroupNumbers.{set_name_of, name_demands_of}
use Rattle.plain_machine.proofs.Renumbering.{meaning_to_let_of}
use Rattle.plain_machine.proofs.Holders.{name_cases}
use Rattle.plain_machine.proofs.Ties.{given_meant, name_held}
use Rattle.input_state.specs.Stored.{Stored, KeepsShared}
use Rattle.engine_state.specs.declared.engine.Engine.{Engine}
use Rattle.engine_state.specs.Book.{Book}
use Rattle.engine_state.specs.Rules.{Cuts}
use Rattle.engine_state.specs.Stands.{Stands, state_of, page_of}
use Rattle.engine_state.proofs.Cutting.{later_cuts}
use Rattle.engine_state.proofs.Grouping.{asks_same, unchanged_cuts}
use Rattle.stomach.proofs.Regrouped.{regrouped_did, regrouped_stands}

abbrev Cell : Type 0
Cell = Meaning (Option ℕ)

-- HOW MANY MEANINGS THERE ARE stays

placed_length : (global : Bool) (g : Groups) (o : Option ℕ) (m : Cell) → length (set_placed global g o m).now.meanings ≡ length g.now.meanings
placed_length global g None m = refl
placed_length true g (Some k) m = length-set g.now.meanings k m
placed_length false g (Some k) m = length-set g.now.meanings k m

pub named_length : (global : Bool) (g : Groups) (name : Name) (m : Cell) → length (set_name global g name m).now.meanings ≡ length g.now.meanings
named_length global g name m = placed_length global g (place_of g name) m

-- A NAME WITHOUT A LOCATION means what it meant

placed_none : (count : ℕ) (o : Option ℕ) → (IsPlaced o count → ⊥) → placed count o ≡ None
placed_none count None h = refl
placed_none count (Some k) h = elim (cases_lt k count) [
  | inl below ↦ absurd (h below)
  | inr past ↦ (let no : nat_lt k count ≡ false = grind (arith, nat_tests, past) in ap (λ (b : Bool). if b then Some k else None) no)
]

module _ (number : ℕ → ℕ) (g : Groups) (name : Name) (lost : IsPlaced (location name) (length g.now.meanings) → ⊥) where
  lost_place : place_of (groups_of number g) name ≡ None
  lost_place = placed_none (length (meanings_of number g.now.meanings)) (location name) (λ there. lost (subst (IsPlaced (location name)) (length-map g.now.meanings (meaning_of number)) there))

  pub lost_name : (global : Bool) (m : Cell) → set_name global (groups_of number g) name m ≡ groups_of number g
  lost_name global m = ap (λ (o : Option ℕ). set_placed global (groups_of number g) o m) lost_place

  -- nothing is asked for
  pub lost_refused : (sizes : Sizes) (global : Bool) → refused sizes (name_demands global (groups_of number g) name) ≡ None
  lost_refused sizes global = ap (λ (o : Option ℕ). refused sizes (placed_demands global (groups_of number g) o)) lost_place

-- THE NAME MEANS IT

-- of a meaning with the engine's numbers and with the machine's
module _ (e : Engine) (i : Stored) (global : Bool) (name : Name) (m : Cell) (is : i ≡ record e.input { groups = set_name global e.input.groups name m; lists = i.lists }) where
  abbrev given : Groups
  given = set_name global e.input.groups name m

  module _ (sizes : Sizes) (book : Book) (w : World) (own : Cell) (same : own ≡ meaning_of book.number m) (st : Stands sizes e book) where
    pub named_did : refused e.input.sizes (name_demands global e.input.groups name) ≡ None → Did sizes (state_of e book) (state_of (record e { input = i }) book) w w (Assigned global name own ∷ [])
    named_did fits =
        regrouped_did e given i is sizes w book (Assigned global name own) tt
        (asks_same sizes e book None st.sound _ _ (name_demands_of book.number global e.input.groups name) fits)
        (ap (λ (g : Groups). record (state_of e book) { groups = g }) (ap (set_name global (groups_of book.number e.input.groups) name) same ∙ set_name_of book.number global e.input.groups name m))

  pub named_stands : ((n : ℕ) → is_listed (lists_held given) n ≡ true → is_listed (lists_held e.input.groups) n ≡ true) → KeepsShared e.input i → (sizes : Sizes) (book : Book) → Stands sizes e book → Stands sizes (record e { input = i }) book
  named_stands fewer kept sizes book st = regrouped_stands e given i is (named_length global e.input.groups name m) fewer kept sizes book st

-- there is no room for what it meant
pub named_cuts : (sizes : Sizes) (e : Engine) (i : Stored) (book : Book) (w : World) (global : Bool) (name : Name) (m : Cell) (more : List Move) (full : Full) → i ≡ e.input → Stands sizes e book → refused e.input.sizes (name_demands global e.input.groups name) ≡ Some full →
    Cuts sizes (state_of e book) (record e { input = i }) book w w (Assigned global name m ∷ more) (broken.Full full)
named_cuts sizes e i book w global name m more full same st refuses =
    unchanged_cuts sizes e i book w (Assigned global name m) more full same (asks_same sizes e book (Some full) st.sound _ _ (name_demands_of book.number global e.input.groups name) refuses)

-- A MEANING WITHOUT A LIST has the same numbers, and holds nothing

bare_of : (number : ℕ → ℕ) (m : Meaning Unit) → without_list m ≡ meaning_of number (without_list m)
bare_of number means.Undefined = refl
bare_of number means.RelaxMarked = refl
bare_of number (means.Char cat code) = refl
bare_of number (means.CharGiven code) = refl
bare_of number (means.MathGiven code) = refl
bare_of number (means.Register kind n) = refl
bare_of number (means.Prim n) = refl
bare_of number (means.Macro long outer list) = refl

bare_list : (m : Meaning Unit) → list_of (without_list m) ≡ None
bare_list means.Undefined = refl
bare_list means.RelaxMarked = refl
bare_list (means.Char cat code) = refl
bare_list (means.CharGiven code) = refl
bare_list (means.MathGiven code) = refl
bare_list (means.Register kind n) = refl
bare_list (means.Prim n) = refl
bare_list (means.Macro long outer list) = refl

bare_held : (k : ℕ) (global : Bool) (g : Groups) (n : Name) (m : Meaning Unit) → is_listed (lists_held (set_name global g n (without_list m))) k ≡ true → is_listed (lists_held g) k ≡ true
bare_held k global g n m held = ⊎_elim (λ own. (let none = rw (bare_list m) at own in cc)) (λ was. was) (name_cases k global g n (without_list m) held)

module _ (e : Engine) (i : Stored) (global : Bool) (name : Name) (m : Meaning Unit) (is : i ≡ record e.input { groups = set_name global e.input.groups name (without_list m); lists = i.lists }) where
  pub bare_did : (sizes : Sizes) (w : World) (book : Book) → Stands sizes e book → refused e.input.sizes (name_demands global e.input.groups name) ≡ None →
      Did sizes (state_of e book) (state_of (record e { input = i }) book) w w (Assigned global name (without_list m) ∷ [])
  bare_did sizes w book st fits = named_did e i global name (without_list m) is sizes book w (without_list m) (bare_of book.number m) st fits

  pub bare_stands : KeepsShared e.input i → (sizes : Sizes) (book : Book) → Stands sizes e book → Stands sizes (record e { input = i }) book
  bare_stands kept sizes book st = named_stands e i global name (without_list m) is (λ n held. bare_held n global e.input.groups name m held) kept sizes book st

-- WHAT A TOKEN MEANS

module _ (e : Engine) (i : Stored) (global : Bool) (name : Name) (x : Seen) (is : i ≡ record e.input { groups = set_name global e.input.groups name (meaning_to_let e.input.groups.now.meanings x); lists = i.lists }) where
  abbrev meant : Cell
  meant = meaning_to_let e.input.groups.now.meanings x

  pub assigned_did : (sizes : Sizes) (w : World) (book : Book) → Stands sizes e book → refused e.input.sizes (name_demands global e.input.groups name) ≡ None →
      Did sizes (state_of e book) (state_of (record e { input = i }) book) w w (Assigned global name (meaning_to_let (page_of e book).now.meanings x) ∷ [])
  assigned_did sizes w book st fits =
      named_did e i global name meant is sizes book w (meaning_to_let (meanings_of book.number e.input.groups.now.meanings) x) (meaning_to_let_of book.number e.input.groups.now.meanings x) st fits

  -- a macro's list is shared: each list that is held then was held
  meant_held : (n : ℕ) → is_listed (lists_held (set_name global e.input.groups name meant)) n ≡ true → is_listed (lists_held e.input.groups) n ≡ true
  meant_held n held = ⊎_elim (λ a. name_held n e.input.groups (given_meant n e.input.groups.now.meanings x a)) (λ was. was) (name_cases n global e.input.groups name meant held)

  pub assigned_stands : KeepsShared e.input i → (sizes : Sizes) (book : Book) → Stands sizes e book → Stands sizes (record e { input = i }) book
  assigned_stands kept sizes book st = named_stands e i global name meant is meant_held kept sizes book st

-- BEHIND TWO TOKENS THAT ARE PUT BACK

module _ (sizes : Sizes) (e e1 e2 : Engine) (book : Book) (w : World) (global : Bool) (name : Name) (x y : Seen) (first : Did sizes (state_of e book) (state_of e1 book) w w (put_one y.token)) where
  abbrev lets : Engine → List Move
  lets d = Assigned global name (meaning_to_let (page_of d book).now.meanings y) ∷ []

  -- the second has no room
  pub behind_cuts : (b : Broken) (more : List Move) → Cuts sizes (state_of e1 book) e2 book w w (put_one x.token ++ (lets e ++ more)) b → Cuts sizes (state_of e book) e2 book w w ((put_one y.token ++ (put_one x.token ++ lets e)) ++ more) b
  behind_cuts b more h = later_cuts sizes (state_of e book) (state_of e1 book) e2 book w w w (put_one y.token) (put_one x.token ++ (lets e ++ more)) b first h

  module _ (e3 : Engine) (page : page_of e2 book ≡ page_of e book) (second : Did sizes (state_of e1 book) (state_of e2 book) w w (put_one x.token)) where
    -- what the name meant has none
    pub unset_cuts : (b : Broken) (more : List Move) → Cuts sizes (state_of e2 book) e3 book w w (lets e2 ++ more) b → Cuts sizes (state_of e book) e3 book w w ((put_one y.token ++ (put_one x.token ++ lets e)) ++ more) b
    unset_cuts b more h =
        later_cuts sizes (state_of e book) (state_of e1 book) e3 book w w w (put_one y.token) (put_one x.token ++ (lets e ++ more)) b first
        (later_cuts sizes (state_of e1 book) (state_of e2 book) e3 book w w w (put_one x.token) (lets e ++ more) b second
        (subst (λ (p : Page). Cuts sizes (state_of e2 book) e3 book w w (Assigned global name (meaning_to_let p.now.meanings y) ∷ more) b) page h))

    pub behind_did : Did sizes (state_of e2 book) (state_of e3 book) w w (lets e2) → Did sizes (state_of e book) (state_of e3 book) w w (put_one y.token ++ (put_one x.token ++ lets e))
    behind_did third =
        did_join sizes (state_of e book) (state_of e1 book) (state_of e3 book) w w w (put_one y.token) (put_one x.token ++ lets e) first
        (did_join sizes (state_of e1 book) (state_of e2 book) (state_of e3 book) w w w (put_one x.token) (lets e) second
        (subst (λ (p : Page). Did sizes (state_of e2 book) (state_of e3 book) w w (Assigned global name (meaning_to_let p.now.meanings y) ∷ [])) page third))
