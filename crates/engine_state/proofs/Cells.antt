-- The locations of names, and a name more.
use Rattle.std.proofs.Common.{◌≡◌, ℕ, zero, suc, ◌+◌, ◌≤◌, List, [], ◌∷◌, ◌++◌, length, get_or, Option, None, Some, refl, sym, ap, ◌∙◌, arith, Bool, true, false}
use Rattle.std.specs.Prelude.{if◌then◌else◌, ◌==◌, codes}
use Rattle.std.proofs.lemmas.Bool.Decides.{nat_tests}
use Rattle.std.proofs.lemmas.List.{length-append}
use Rattle.tex_defs.specs.declared.Name.{Name}
use Rattle.tex_defs.specs.declared.Name.TheVariants as name
use Rattle.tex_defs.specs.declared.Token.{Token}
use Rattle.tex_defs.specs.declared.Token.TheVariants as token
use Rattle.tex_defs.specs.declared.Meaning.{Meaning}
use Rattle.tex_defs.specs.declared.Meaning.TheVariants as means
use Rattle.prim_table.specs.Primitives.{primitive_names, command_names, assignment_names, expandable_names, conditional_names, integer_names, dimension_names, glue_names, token_names}
use Rattle.plain_tokens.specs.Tokens.{is_outer}
use Rattle.plain_tokens.specs.Lex.{Lexeme, Character, ActiveName, SingleName, WordName, EmptyName, ParName}
use Rattle.plain_tokens.specs.Lookup.{token_of, name_among, name_number, numbered_name, joins, new_among, new_name}
use Rattle.plain_tokens.specs.Meanings.{fixed_locations, location, fixed_meaning, looked_up, name_meaning, seen_as, seen}
use Rattle.equivalents.specs.First.{first_tables}
use Rattle.equivalents.specs.Groups.{Groups, entered, first_groups}
use Rattle.equivalents.specs.Holding.{lists_held}
use Rattle.plain_machine.proofs.Holders.{entered_lists}
use Rattle.engine_state.specs.Entering.{all_entered}

abbrev Cell : Type 0
Cell = Meaning (Option ℕ)

-- the primitives have their locations
known : length primitive_names ≡ 186
unfolding primitive_names command_names assignment_names expandable_names conditional_names integer_names dimension_names glue_names token_names
known = refl

first_length : (is_known : ℕ → Bool) → length (first_tables is_known).meanings ≡ 514 + 186
unfolding first_tables
first_length is_known = refl

pub first_located : (is_known : ℕ → Bool) (g : Groups) (names : List (List ℕ)) → g ≡ first_groups is_known → names ≡ primitive_names → length g.now.meanings ≡ fixed_locations + length names
first_located is_known g names is n = ap (λ (x : Groups). length x.now.meanings) is ∙ first_length is_known ∙ ap (λ (k : ℕ). 514 + k) (sym known) ∙ ap (λ (ns : List (List ℕ)). 514 + length ns) (sym n)

-- A NAME MORE is undefined, as it was

undefined_past : (cells : List Cell) (k : ℕ) → get_or (cells ++ means.Undefined ∷ []) k means.Undefined ≡ get_or cells k means.Undefined
undefined_past [] zero = refl
undefined_past [] (suc k) = refl
undefined_past (c ∷ cells) zero = refl
undefined_past (c ∷ cells) (suc k) = undefined_past cells k

more_at : (cells : List Cell) (o : Option ℕ) (fixed : Cell) → looked_up (cells ++ means.Undefined ∷ []) o fixed ≡ looked_up cells o fixed
more_at cells None fixed = refl
more_at cells (Some k) fixed = undefined_past cells k

seen_one : (cells : List Cell) (t : Token) → seen (cells ++ means.Undefined ∷ []) t ≡ seen cells t
seen_one cells (token.Char category c) = refl
seen_one cells (token.Named n) = ap (λ (m : Cell). record { token = token.Named n; meaning = seen_as m }) (more_at cells (location n) (fixed_meaning n))
seen_one cells (token.Marked n) = ap (λ (m : Cell). record { token = token.Marked n; meaning = seen_as m }) (more_at cells (location n) (fixed_meaning n))
seen_one cells t = refl

pub seen_more : (new : List (List ℕ)) (g : Groups) (t : Token) → seen (all_entered new g).now.meanings t ≡ seen g.now.meanings t
seen_more [] g t = refl
seen_more (name ∷ names) g t = seen_more names (entered g) t ∙ seen_one g.now.meanings t

pub meaning_more : (new : List (List ℕ)) (g : Groups) (n : Name) → name_meaning (all_entered new g).now.meanings n ≡ name_meaning g.now.meanings n
meaning_more [] g n = refl
meaning_more (name ∷ names) g n = meaning_more names (entered g) n ∙ more_at g.now.meanings (location n) (fixed_meaning n)

-- it has a location
pub entered_length : (new : List (List ℕ)) (g : Groups) → length (all_entered new g).now.meanings ≡ length g.now.meanings + length new
entered_length [] g = omega arith
entered_length (name ∷ names) g = omega (arith, entered_length names (entered g), length-append g.now.meanings (means.Undefined ∷ []))

-- and no list
pub lists_entered : (new : List (List ℕ)) (g : Groups) → lists_held (all_entered new g) ≡ lists_held g
lists_entered [] g = refl
lists_entered (name ∷ names) g = lists_entered names (entered g) ∙ entered_lists g

-- A NAME THAT JOINS THE OTHERS is undefined

past_end : (cells : List Cell) (k : ℕ) → length cells ≤ k → get_or cells k means.Undefined ≡ means.Undefined
past_end [] k h = refl
past_end (c ∷ cells) zero h = absurd (omega (arith, h))
past_end (c ∷ cells) (suc k) h = past_end cells k (omega (arith, h))

module _ (cells : List Cell) (names : List (List ℕ)) (located : length cells ≡ fixed_locations + length names) where
  word_at : location (name.Word (length names + 1)) ≡ Some (514 + length names)
  word_at = ap (λ (b : Bool). if b then None else Some (513 + (length names + 1))) no ∙ ap (λ (k : ℕ). Some k) same where
    same : 513 + (length names + 1) ≡ 514 + length names
    same = omega arith

    no : (length names + 1 == 0) ≡ false
    no = grind (arith, nat_tests)

  new_undefined : name_meaning cells (name.Word (length names + 1)) ≡ means.Undefined
  new_undefined = ap (λ (o : Option ℕ). looked_up cells o means.Undefined) word_at ∙ past_end cells (514 + length names) (omega (arith, located))

  inner_word : (bytes : List ℕ) (o : Option ℕ) → (joins bytes o ≡ [] → ⊥) → is_outer (seen cells (token.Named (numbered_name true (length names) o))).meaning ≡ false
  inner_word bytes (Some n) some = absurd (some refl)
  inner_word bytes None some = ap (λ (m : Cell). is_outer (seen_as m)) new_undefined

  inner_among : (enters : Bool) (bytes : List ℕ) → (new_among enters names bytes ≡ [] → ⊥) → is_outer (seen cells (token.Named (name_among enters names bytes))).meaning ≡ false
  inner_among true bytes some = inner_word bytes (name_number names bytes) some
  inner_among false bytes some = absurd (some refl)

  -- so it is not that of an \outer macro
  pub inner_new : (enters : Bool) (x : Lexeme) → (new_name enters names x ≡ [] → ⊥) → is_outer (seen cells (token_of enters names x)).meaning ≡ false
  inner_new enters (WordName bytes) some = inner_among enters bytes some
  inner_new enters ParName some = inner_among enters (codes "par") some
  inner_new enters (Character category code) some = absurd (some refl)
  inner_new enters (ActiveName code) some = absurd (some refl)
  inner_new enters (SingleName code) some = absurd (some refl)
  inner_new enters EmptyName some = absurd (some refl)
