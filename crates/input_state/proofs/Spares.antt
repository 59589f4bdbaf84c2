-- Room for the bytes of the files that may still be opened.
use Rattle.std.proofs.Common.{◌≡◌, ℕ, ◌+◌, ◌-◌, ◌≤◌, List, [], ◌∷◌, ◌++◌, map, reverse, length, Option, None, Some, refl, sym, ap, ◌∙◌, subst, length-append, arith}
use Rattle.std.specs.Prelude.{All, option_to_list}
use Rattle.std.proofs.lemmas.List.{reverse-append}
use Rattle.std.proofs.lemmas.List.Elements.{All-append, All-head, All-tail, All-cons, All-nil}
use Rattle.input_state.specs.BytesLeft.{BytesLeft}
use Rattle.input_state.specs.FileLeft.{rooms_end}
use Rattle.input_state.specs.FileViews.{IsOfSize, IsSpare, AreOpen, left_of}
use Rattle.input_state.specs.declared.file.OpenFile.{OpenFile}

pub one_more : (size : ℕ) (spare : List BytesLeft) (b : BytesLeft) → All (IsSpare size) spare → IsSpare size b → All (IsSpare size) (spare ++ b ∷ [])
one_more size spare b all is = All-append (IsSpare size) spare (b ∷ []) all (All-cons (IsSpare size) b [] is (All-nil (IsSpare size)))

no_items : {A : Type 0} (xs : List A) → length xs ≡ 0 → xs ≡ []
no_items [] none = refl
no_items (x ∷ xs) none = absurd (omega (arith, none))

-- THE INNERMOST FILE GOES

abbrev lines_left : Option OpenFile → ℕ → ℕ
lines_left None lines = 0
lines_left (Some g) lines = lines - (1 + g.whole)

module _ (f : OpenFile) (beneath : List OpenFile) (opened : Option BytesLeft) (spare : List BytesLeft) (lines size levels capacity spare_capacity : ℕ) (files : AreOpen (Some f) beneath opened spare lines size levels capacity spare_capacity) (b : BytesLeft) (is_spare : IsSpare size b) (room spare_room : ℕ) (same_room : room ≡ capacity) (same_spare : spare_room ≡ spare_capacity) where
  ended : (popped : Option OpenFile) (rest : List OpenFile) → beneath ≡ rest ++ option_to_list popped → (popped ≡ None → length rest ≡ 0) → AreOpen popped rest opened (spare ++ b ∷ []) (lines_left popped lines) size levels room spare_room
  ended None rest is none =
      let empty = no_items rest (none refl) in
      let both : beneath ≡ [] = is ∙ ap (λ (xs : List OpenFile). xs ++ []) empty in
      record {
        has = empty;
        sized = tt;
        beneath_sized = subst (All (λ g. IsOfSize size g.bytes)) (sym empty) (All-nil (λ g. IsOfSize size g.bytes));
        opened_sized = files.opened_sized;
        spares = one_more size spare b files.spares is_spare;
        count = omega (arith, files.count, ap length empty, ap length both, length-append spare (b ∷ []));
        lines_are = sym (ap (λ (xs : List OpenFile). rooms_end (map left_of (reverse xs))) empty);
        fits = omega arith;
        room = omega (arith, files.room, same_room);
        spare_room = omega (arith, files.spare_room, same_spare);
        small = files.small;
        few = files.few;
      }
  ended (Some g) rest is none =
      let all : All (λ h. IsOfSize size h.bytes) (rest ++ g ∷ []) = subst (All (λ h. IsOfSize size h.bytes)) is files.beneath_sized in
      let lines_then : lines ≡ (1 + g.whole) + rooms_end (map left_of (reverse rest)) =
      files.lines_are ∙ ap (λ (xs : List OpenFile). rooms_end (map left_of xs)) (ap reverse is ∙ reverse-append rest (g ∷ [])) in
      let within : (1 + f.whole) + rooms_end (map left_of (reverse beneath)) ≤ size = files.fits in
      record {
        has = tt;
        sized = last_of rest all;
        beneath_sized = front_of rest all;
        opened_sized = files.opened_sized;
        spares = one_more size spare b files.spares is_spare;
        count = omega (arith, files.count, ap length is, length-append rest (g ∷ []), length-append spare (b ∷ []));
        lines_are = omega (arith, lines_then);
        fits = omega (arith, within, files.lines_are, lines_then);
        room = omega (arith, files.room, same_room);
        spare_room = omega (arith, files.spare_room, same_spare);
        small = files.small;
        few = files.few;
      }
    where
      last_of : (xs : List OpenFile) → All (λ h. IsOfSize size h.bytes) (xs ++ g ∷ []) → IsOfSize size g.bytes
      last_of [] all = All-head (λ h. IsOfSize size h.bytes) g [] all
      last_of (x ∷ xs) all = last_of xs (All-tail (λ h. IsOfSize size h.bytes) x (xs ++ g ∷ []) all)

      front_of : (xs : List OpenFile) → All (λ h. IsOfSize size h.bytes) (xs ++ g ∷ []) → All (λ h. IsOfSize size h.bytes) xs
      front_of [] all = All-nil (λ h. IsOfSize size h.bytes)
      front_of (x ∷ xs) all = All-cons (λ h. IsOfSize size h.bytes) x xs (All-head (λ h. IsOfSize size h.bytes) x (xs ++ g ∷ []) all) (front_of xs (All-tail (λ h. IsOfSize size h.bytes) x (xs ++ g ∷ []) all))

-- whatever it is called
pub ended_files : (inner : Option OpenFile) (f : OpenFile) (beneath : List OpenFile) (opened : Option BytesLeft) (spare : List BytesLeft) (lines size levels capacity spare_capacity : ℕ) → inner ≡ Some f → AreOpen inner beneath opened spare lines size levels capacity spare_capacity → (b : BytesLeft) → b ≡ record { rest = []; buffer_size = f.bytes.buffer_size } → (room spare_room : ℕ) → room ≡ capacity → spare_room ≡ spare_capacity →
    (popped : Option OpenFile) (rest : List OpenFile) → beneath ≡ rest ++ option_to_list popped → (popped ≡ None → length rest ≡ 0) → (n : ℕ) → n ≡ lines_left popped lines → AreOpen popped rest opened (spare ++ b ∷ []) n size levels room spare_room
ended_files inner f beneath opened spare lines size levels capacity spare_capacity inner_is files b b_is room spare_room same_room same_spare popped rest is none n n_is =
    let all : AreOpen (Some f) beneath opened spare lines size levels capacity spare_capacity = subst (λ (o : Option OpenFile). AreOpen o beneath opened spare lines size levels capacity spare_capacity) inner_is files in
    let cleared : IsSpare size b = record { sized = ap (λ (x : BytesLeft). x.buffer_size) b_is ∙ all.sized; empty = ap (λ (x : BytesLeft). x.rest) b_is } in
    subst (λ (k : ℕ). AreOpen popped rest opened (spare ++ b ∷ []) k size levels room spare_room) (sym n_is)
    (ended f beneath opened spare lines size levels capacity spare_capacity all b cleared room spare_room same_room same_spare popped rest is none)
