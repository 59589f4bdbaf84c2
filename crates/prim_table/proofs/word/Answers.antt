use Rattle.std.proofs.Common.{arith, add-one, refl, List, ◌+◌, ◌≡◌, suc, length, get_or, ℕ}
use Rattle.prim_table.proofs.WordLemmas.{IsInPlace, in_place}
use Rattle.prim_table.specs.Words.{word_at}
use Rattle.prim_table.proofs.word.Goals as goal

pub overflow_sub-result : goal.overflow_sub-result
overflow_sub-result c =
    let p : IsInPlace c.args.starts.now (length c.args.text.now) c.args.k = in_place c.args.starts.now (length c.args.text.now) c.args.k c.requires.in_place (omega (arith, c.requires.below)) in
    rw add-one (omega (arith, p.nonempty))

pub slice_bounds-result-count : goal.slice_bounds-result-count
slice_bounds-result-count c =
    let p : IsInPlace c.args.starts.now (length c.args.text.now) c.args.k = in_place c.args.starts.now (length c.args.text.now) c.args.k c.requires.in_place (omega (arith, c.requires.below)) in
    rw add-one (omega (arith, p.nonempty))

next_is : (starts : List ℕ) (k : ℕ) → get_or starts (k + 1) 0 ≡ get_or starts (suc k) 0
next_is starts k = rw add-one refl

pub slice_bounds-result-start : goal.slice_bounds-result-start
slice_bounds-result-start c =
    let p : IsInPlace c.args.starts.now (length c.args.text.now) c.args.k = in_place c.args.starts.now (length c.args.text.now) c.args.k c.requires.in_place (omega (arith, c.requires.below)) in
    omega (arith, p.nonempty, p.within, next_is c.args.starts.now c.args.k)

pub slice_bounds-result-end : goal.slice_bounds-result-end
slice_bounds-result-end c =
    let p : IsInPlace c.args.starts.now (length c.args.text.now) c.args.k = in_place c.args.starts.now (length c.args.text.now) c.args.k c.requires.in_place (omega (arith, c.requires.below)) in
    omega (arith, p.nonempty, p.within, next_is c.args.starts.now c.args.k)

pub returns : goal.returns
unfolding word_at
returns c = rw add-one refl
