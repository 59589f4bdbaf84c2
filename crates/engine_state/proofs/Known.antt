-- The primitives that mean something.
use Rattle.std.proofs.Common.{◌≡◌, ℕ, ◌+◌, List, [], ◌∷◌, ◌++◌, length, map, refl, ap, Bool, false}
use Rattle.std.specs.Prelude.{replicate, Option}
use Rattle.std.specs.List.{range_with_len}
use Rattle.tex_defs.specs.declared.Meaning.{Meaning}
use Rattle.tex_defs.specs.declared.Meaning.TheVariants as means
use Rattle.plain_tokens.specs.Meanings.{first_meaning, first_meanings, is_listed, fixed_locations, primitive_count}
use Rattle.equivalents.specs.First.{first_tables}
use Rattle.equivalents.specs.Groups.{outermost, first_groups}
use Rattle.equivalents.specs.Locations.{locations_without_names}
use Rattle.equivalents.specs.Tables.{Tables}
use Rattle.plain_machine.specs.Plan.{is_known}
use Rattle.engine_state.specs.declared.engine.TheConstants.{KNOWN}

-- those of the list are those that the machine knows
listed : map (is_listed KNOWN.now) (range_with_len 1 primitive_count) ≡ map is_known (range_with_len 1 primitive_count)
listed = refl

-- where two tests agree, so do the meanings
meanings_by : (p q : ℕ → Bool) (ks : List ℕ) → map p ks ≡ map q ks → map (first_meaning p) ks ≡ map (first_meaning q) ks
meanings_by p q [] h = refl
meanings_by p q (k ∷ ks) h = meanings_on (p k) (q k) (ap first_bool h) (meanings_by p q ks (ap rest_of h)) where
  first_bool : List Bool → Bool
  first_bool [] = false
  first_bool (b ∷ bs) = b

  rest_of : List Bool → List Bool
  rest_of [] = []
  rest_of (b ∷ bs) = bs

  meanings_on : (b c : Bool) → b ≡ c → map (first_meaning p) ks ≡ map (first_meaning q) ks → (first_meaning (λ n. b) k ∷ map (first_meaning p) ks) ≡ (first_meaning (λ n. c) k ∷ map (first_meaning q) ks)
  meanings_on b c e h = cc

known_meanings : first_meanings (is_listed KNOWN.now) ≡ first_meanings is_known
known_meanings = ap (λ (cells : List (Meaning (Option ℕ))). replicate fixed_locations means.Undefined ++ cells) (meanings_by (is_listed KNOWN.now) is_known (range_with_len 1 primitive_count) listed)

tables_by : (p q : ℕ → Bool) → first_meanings p ≡ first_meanings q → first_tables p ≡ first_tables q
unfolding first_tables
tables_by p q h = ap (λ (cells : List (Meaning (Option ℕ))). record (first_tables q) { meanings = cells }) h

-- so is what stands at all locations
pub first_known : first_groups (is_listed KNOWN.now) ≡ first_groups is_known
first_known = ap (λ (m : Tables). outermost m (locations_without_names + length m.meanings)) (tables_by (is_listed KNOWN.now) is_known known_meanings)
