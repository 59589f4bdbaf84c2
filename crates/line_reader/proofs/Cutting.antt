-- What holds of lines that are cut out of one list of bytes.
use Rattle.std.proofs.Common.{◌≡◌, ℕ, ◌+◌, ◌-◌, ◌≤◌, List, [], ◌∷◌, length, take, drop, reverse, refl, ap, sym, ◌∙◌, arith}
use Rattle.std.specs.List.{sum_by}
use Rattle.std.specs.Prelude.{Option}
use Rattle.std.proofs.lemmas.List.{length-drop, take-take, drop-take, length-reverse}
use Rattle.std.proofs.lemmas.List.Sums.{sum_by-cons}
use Rattle.std.proofs.lemmas.Grind.{common_steps}
use Rattle.line_reader.specs.Ahead.{Ahead}
use Rattle.line_reader.specs.OpenLines.{OpenLines, used}
use Rattle.line_reader.specs.Cuts.{cut, AreCut, lines_of, IsSound}

-- the bytes of one line in the first bytes
one : (bytes : List ℕ) (start last : ℕ) → start ≤ last → take (last - start) (drop start bytes) ≡ drop start (take last bytes)
one bytes start last le =
    let whole : start + (last - start) ≡ last = omega arith in
    sym (drop-take start (last - start) bytes) ∙ ap (λ (n : ℕ). drop start (take n bytes)) whole

-- lines see only the bytes up to their end
pub cut-same : (bytes more : List ℕ) (last : ℕ) (starts : List ℕ) → AreCut last starts → take last bytes ≡ take last more → cut bytes last starts ≡ cut more last starts
unfolding cut AreCut
cut-same bytes more last [] are same = refl
cut-same bytes more last (start ∷ starts) are same =
    let line : take (last - start) (drop start bytes) ≡ take (last - start) (drop start more) = one bytes start last are.0 ∙ ap (drop start) same ∙ sym (one more start last are.0) in
    let before : take start bytes ≡ take start more = sym (take-take start last bytes are.0) ∙ ap (take start) same ∙ take-take start last more are.0 in
    let others : cut bytes start starts ≡ cut more start starts = cut-same bytes more start starts are.1 before in
    cc

pub length_line : (bytes : List ℕ) (start last : ℕ) → start ≤ last → last ≤ length bytes → length (take (last - start) (drop start bytes)) + start ≡ last
length_line bytes start last le within = grind (arith, common_steps)

pub used-cut : (bytes : List ℕ) (last : ℕ) (starts : List ℕ) → AreCut last starts → last ≤ length bytes → sum_by (λ line. length line + 1) (cut bytes last starts) ≡ last + length starts
unfolding cut AreCut
used-cut bytes last [] are within = grind (arith, common_steps)
used-cut bytes last (start ∷ starts) are within =
    let line : length (take (last - start) (drop start bytes)) + start ≡ last = length_line bytes start last are.0 within in
    let others : sum_by (λ line. length line + 1) (cut bytes start starts) ≡ start + length starts = used-cut bytes start starts are.1 (omega arith) in
    sum_by-cons (λ (line : List ℕ). length line + 1) (take (last - start) (drop start bytes)) (cut bytes start starts) ∙ omega (arith, line, others)

module _ (bytes starts : List ℕ) (behind : ℕ) (part_of : Option ℕ) (ahead : List Ahead) (size levels byte_room start_room window_room : ℕ) where
  -- the part of a buffer that is sound
  abbrev Sound : Type 0
  Sound = IsSound bytes starts behind part_of ahead size levels byte_room start_room window_room

  abbrev Lines : OpenLines
  Lines = lines_of bytes starts behind part_of ahead size levels

  pub used_is : Sound → used Lines ≡ behind + length starts
  used_is s = used-cut bytes behind (reverse starts) s.are_cut s.within ∙ ap (λ (n : ℕ). behind + n) (length-reverse starts)

  pub length_tail : behind ≤ length bytes → length (drop behind bytes) + behind ≡ length bytes
  length_tail le = omega (arith, length-drop behind bytes)
