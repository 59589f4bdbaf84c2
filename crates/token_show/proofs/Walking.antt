-- The step of a walk.
use Rattle.std.proofs.Common.{◌≡◌, ℕ, suc, ◌+◌, ◌<◌, List, ◌∷◌, length, drop, Option, Some, sym, ap, ◌∙◌, add-one}
use Rattle.std.proofs.Math.Seq.{drop-cons}
use Rattle.std.specs.List.{slice_get}
use Rattle.std.proofs.lemmas.Option.{slice_get_within, get_or_from_slice_get}
use Rattle.tex_defs.specs.declared.Token.{Token}
use Rattle.token_lists.specs.Table.{Entry, tokens_at, places_at}
use Rattle.token_lists.specs.Ids.{id_of, build_id}
use Rattle.token_show.specs.declared.walk.Source.{Source}
use Rattle.token_show.specs.declared.walk.Source.TheVariants.{Nothing, Finished, Built}
use Rattle.token_show.specs.Walks.{tokens_from, IsAt}

-- the element at an index comes first behind those before it
pub drop_at : {X : Type 0} → (xs : List X) (i : ℕ) (x : X) → slice_get xs i ≡ Some x → drop i xs ≡ x ∷ drop (i + 1) xs
drop_at xs i x h =
    let within : i < length xs = slice_get_within xs i x h in
    rw add-one (drop-cons xs i x within ∙ ap (λ y. y ∷ drop (suc i) xs) (get_or_from_slice_get xs i x x h))

-- the token at a walk's place comes first, and the others are left
pub walk_more : (table : List (Option Entry)) (at : Option ℕ) (index place : ℕ) (source : Source) (t : Token)
    → at ≡ Some place → IsAt table at index source
    → ((h i : ℕ) → slice_get (places_at table h) i ≡ Some place → slice_get (tokens_at table h) i ≡ Some t)
    → tokens_from table index source ≡ t ∷ tokens_from table (index + 1) source
walk_more table at index place Nothing t is h told = cc
walk_more table at index place (Finished list) t is h told =
    drop_at (tokens_at table (id_of list.now)) index t (told (id_of list.now) index (sym h.place ∙ is))
walk_more table at index place (Built build) t is h told =
    drop_at (tokens_at table (build_id build.now)) index t (told (build_id build.now) index (sym h.place ∙ is))
