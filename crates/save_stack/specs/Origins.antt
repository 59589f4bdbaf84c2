-- Where the values of the outer levels are kept.
use Rattle.std.specs.Prelude.{◌≡◌, List, [], ◌∷◌, Bool, true}
use Rattle.save_stack.specs.declared.Saved.{Saved}
use Rattle.save_stack.specs.Groups.{Stack, top}

abbrev pub Each : {X : Type 0} → (X → Bool) → List X → Type 0
Each p [] = Unit {0}
Each p (x ∷ xs) = (p x ≡ true) × Each p xs

abbrev pub EachMap : {X : Type 0} → (X → Bool) → List (List X) → Type 0
EachMap p [] = Unit {0}
EachMap p (m ∷ ms) = Each p m × EachMap p ms

abbrev pub EachSaved : {V : Type 0} → (V → Bool) → List (Saved V) → Type 0
EachSaved p [] = Unit {0}
EachSaved p (e ∷ es) = (p e.value ≡ true) × EachSaved p es

abbrev pub EachGroup : {V : Type 0} → (V → Bool) → List (List (Saved V)) → Type 0
EachGroup p [] = Unit {0}
EachGroup p (g ∷ gs) = EachSaved p g × EachGroup p gs

-- each value of a map is in the innermost map or is saved: what holds of all these holds of it
abbrev pub AreHeld : {V : Type 0} → Stack V → Type 0
AreHeld {V} s = (p : V → Bool) → Each p (top s.maps) → EachGroup p s.entries → EachMap p s.maps
