use Rattle.std.proofs.Common.{rules, ◌≡◌, ℕ, zero, suc, ◌<◌, List, [], ◌∷◌, ◌++◌, sym, ap, ◌∙◌, refl, Bool, true, false, arith, length, get_or, set, subst}
use Rattle.std.specs.Prelude.{bytes_eq, if◌then◌else◌}
use Rattle.std.proofs.lemmas.Slice.Eq.{bytes_eq-Decides}
use Rattle.tex_defs.specs.Places.{File, NotHeld, Holds, grown, emptied}
use Rattle.world_io.specs.declared.store.Held.{Held}
use Rattle.world_io.specs.Store.{look_up, Skips}

-- a test of names, turned round
other_name : (h : Held) (hs : List Held) (name : List ℕ) (m : ℕ) → Skips (h ∷ hs) name (suc m) → bytes_eq name h.name ≡ false
other_name h hs name m s = s.other 0 h (omega arith) (omega arith)

later : (h : Held) (hs : List Held) (name : List ℕ) (m : ℕ) → Skips (h ∷ hs) name (suc m) → Skips hs name m
later h hs name m s = record { other = λ k d lt len. s.other (suc k) d (omega arith) (omega arith) }

choose_false : {T : Type 0} (b : Bool) (x y : T) → b ≡ false → (if b then x else y) ≡ y
choose_false true x y e = search rules
choose_false false x y e = refl

choose_true : {T : Type 0} (b : Bool) (x y : T) → b ≡ true → (if b then x else y) ≡ x
choose_true true x y e = refl
choose_true false x y e = search rules

same_name : (a b : List ℕ) → a ≡ b → bytes_eq a b ≡ true
same_name a b e = (bytes_eq-Decides a b).1 e

pub look_up_none : (hs : List Held) (name : List ℕ) → Skips hs name (length hs) → look_up hs name ≡ NotHeld
look_up_none [] name s = refl
look_up_none (h ∷ hs) name s = choose_false _ _ _ (other_name h hs name (length hs) s) ∙ look_up_none hs name (later h hs name (length hs) s)

pub look_up_first : (hs : List Held) (name : List ℕ) (i : ℕ) (h : Held) → i < length hs → Skips hs name i → h ≡ get_or hs i h → h.name ≡ name → look_up hs name ≡ Holds h.bytes
look_up_first [] name i h lt s e n = absurd (omega arith)
look_up_first (x ∷ hs) name zero h lt s e n = choose_true _ _ _ (same_name _ _ (sym n ∙ ap (λ (y : Held). y.name) e)) ∙ ap (λ (y : Held). Holds y.bytes) (sym e)
look_up_first (x ∷ hs) name (suc i) h lt s e n = choose_false _ _ _ (other_name x hs name i s) ∙ look_up_first hs name i h (omega arith) (later x hs name i s) e n

pick_same : (b : Bool) (x y z : File) → (if b then x else z) ≡ (if b then x else (if b then y else z))
pick_same true x y z = refl
pick_same false x y z = refl

pick_later : (b c : Bool) (w x y z : File) → (b ≡ true → c ≡ true → ⊥) → w ≡ (if b then x else z) → (if c then y else w) ≡ (if b then x else (if c then y else z))
pick_later true true w x y z h e = absurd (h refl refl)
pick_later true false w x y z h e = e
pick_later false c w x y z h e = ap (λ (v : File). if c then y else v) e

apart : (n a b : List ℕ) → bytes_eq a b ≡ false → bytes_eq n a ≡ true → bytes_eq n b ≡ true → ⊥
apart n a b h e f =
    let g : bytes_eq a b ≡ true = same_name a b (sym ((bytes_eq-Decides n a).0 e) ∙ (bytes_eq-Decides n b).0 f) in
    search (rules, g, h)

-- the first file of a name gets other bytes
pub look_up_set : (hs : List Held) (name : List ℕ) (i : ℕ) (h0 h : Held) → i < length hs → Skips hs name i → h0 ≡ get_or hs i h0 → h0.name ≡ name → h.name ≡ name → (n : List ℕ) → look_up (set hs i h) n ≡ (if bytes_eq n name then Holds h.bytes else look_up hs n)
look_up_set [] name i h0 h lt s e e0 e1 n = absurd (omega arith)
look_up_set (x ∷ hs) name zero h0 h lt s e e0 e1 n =
    let en : x.name ≡ name = sym (ap (λ (y : Held). y.name) e) ∙ e0 in
    subst (λ (m : List ℕ). look_up (h ∷ hs) n ≡ (if bytes_eq n name then Holds h.bytes else (if bytes_eq n m then Holds x.bytes else look_up hs n))) (sym en)
    (subst (λ (m : List ℕ). (if bytes_eq n m then Holds h.bytes else look_up hs n) ≡ (if bytes_eq n name then Holds h.bytes else (if bytes_eq n name then Holds x.bytes else look_up hs n))) (sym e1)
    (pick_same (bytes_eq n name) (Holds h.bytes) (Holds x.bytes) (look_up hs n)))
look_up_set (x ∷ hs) name (suc i) h0 h lt s e e0 e1 n =
    pick_later (bytes_eq n name) (bytes_eq n x.name) _ _ _ _ (apart n name x.name (other_name x hs name i s)) (look_up_set hs name i h0 h (omega arith) (later x hs name i s) e e0 e1 n)

no_first : (b : Bool) (bytes : List ℕ) (w : File) → (if b then Holds bytes else w) ≡ NotHeld → (b ≡ false) × (w ≡ NotHeld)
no_first true bytes w e = search rules
no_first false bytes w e = (refl, e)

-- a file of a new name
pub look_up_push : (hs : List Held) (h : Held) → look_up hs h.name ≡ NotHeld → (n : List ℕ) → look_up (hs ++ h ∷ []) n ≡ (if bytes_eq n h.name then Holds h.bytes else look_up hs n)
look_up_push [] h e n = refl
look_up_push (x ∷ hs) h e n =
    let f = no_first (bytes_eq h.name x.name) x.bytes (look_up hs h.name) e in
    pick_later (bytes_eq n h.name) (bytes_eq n x.name) _ _ _ _ (apart n h.name x.name f.0) (look_up_push hs h f.1 n)

grown_at : (b : Bool) (f g : File) (bytes piece : List ℕ) → (b ≡ true → g ≡ Holds bytes) → f ≡ (if b then Holds (bytes ++ piece) else g) → f ≡ (if b then grown g piece else g)
grown_at true f g bytes piece h e = e ∙ sym (ap (λ (x : File). grown x piece) (h refl))
grown_at false f g bytes piece h e = e

-- the first file of a name gets bytes behind its own
pub look_up_append : (hs : List Held) (name piece : List ℕ) (i : ℕ) (h0 h : Held) → i < length hs → Skips hs name i → h0 ≡ get_or hs i h0 → h0.name ≡ name → h.name ≡ name → h.bytes ≡ h0.bytes ++ piece → (n : List ℕ) → look_up (set hs i h) n ≡ (if bytes_eq n name then grown (look_up hs n) piece else look_up hs n)
look_up_append hs name piece i h0 h lt s e e0 e1 eb n =
    grown_at (bytes_eq n name) _ (look_up hs n) h0.bytes piece
    (λ t. subst (λ (m : List ℕ). look_up hs m ≡ Holds h0.bytes) (sym ((bytes_eq-Decides n name).0 t)) (look_up_first hs name i h0 lt s e e0))
    (subst (λ (b : List ℕ). look_up (set hs i h) n ≡ (if bytes_eq n name then Holds b else look_up hs n)) eb (look_up_set hs name i h0 h lt s e e0 e1 n))

grown_unheld : (b : Bool) (f : File) (piece : List ℕ) → (b ≡ true → f ≡ NotHeld) → f ≡ (if b then grown f piece else f)
grown_unheld true f piece h = h refl ∙ sym (ap (λ (x : File). grown x piece) (h refl))
grown_unheld false f piece h = refl

-- nothing is written where no file has the name
pub look_up_unheld : (hs : List Held) (name piece : List ℕ) → look_up hs name ≡ NotHeld → (n : List ℕ) → look_up hs n ≡ (if bytes_eq n name then grown (look_up hs n) piece else look_up hs n)
look_up_unheld hs name piece e n =
    grown_unheld (bytes_eq n name) (look_up hs n) piece (λ t. subst (λ (m : List ℕ). look_up hs m ≡ NotHeld) (sym ((bytes_eq-Decides n name).0 t)) e)

-- the first file of a name gets these bytes
pub look_up_put : (hs : List Held) (name bytes : List ℕ) (i : ℕ) (h0 h : Held) → i < length hs → Skips hs name i → h0 ≡ get_or hs i h0 → h0.name ≡ name → h.name ≡ name → h.bytes ≡ bytes → (n : List ℕ) → look_up (set hs i h) n ≡ (if bytes_eq n name then Holds bytes else look_up hs n)
look_up_put hs name bytes i h0 h lt s e e0 e1 eb n =
    subst (λ (b : List ℕ). look_up (set hs i h) n ≡ (if bytes_eq n name then Holds b else look_up hs n)) eb (look_up_set hs name i h0 h lt s e e0 e1 n)

emptied_held : (b : Bool) (bytes : List ℕ) (f : File) → emptied f ≡ Holds [] → emptied (if b then Holds bytes else f) ≡ Holds []
emptied_held true bytes f e = refl
emptied_held false bytes f e = e

always_told : (hs : List Held) (n : List ℕ) → emptied (look_up hs n) ≡ Holds []
always_told [] n = refl
always_told (h ∷ hs) n = emptied_held (bytes_eq n h.name) h.bytes (look_up hs n) (always_told hs n)

-- an empty file stands under the name
pub look_up_empty : (hs hs' : List Held) (name n : List ℕ) → look_up hs' n ≡ (if bytes_eq n name then Holds [] else look_up hs n) → look_up hs' n ≡ (if bytes_eq n name then emptied (look_up hs n) else look_up hs n)
look_up_empty hs hs' name n e = e ∙ ap (λ (f : File). if bytes_eq n name then f else look_up hs n) (sym (always_told hs n))
