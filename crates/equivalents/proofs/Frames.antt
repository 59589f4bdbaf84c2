-- An assignment changes what stands at its location and nothing else.
use Rattle.std.proofs.Common.{◌≡◌, ◌≢◌, rules}
use Rattle.std.proofs.lemmas.List.{get_or-set_other}
use Rattle.equivalents.specs.declared.values.Loc.{Loc}
use Rattle.equivalents.specs.Locations.{V}
use Rattle.equivalents.specs.Tables.{Tables, put, get}

pub others_stay : (m : Tables) (l k : Loc) (v : V) → l ≢ k → get (put m l v) k ≡ get m k
others_stay m l k v apart = search (rules, get_or-set_other)
