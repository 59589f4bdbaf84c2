use Rattle.std.proofs.Common.{◌≡◌, ◌<◌, length, ℕ, List, ap, ◌∙◌, arith, get_or}
use Rattle.string_pool.proofs.Cuts.{cut-in_order}
use Rattle.std.proofs.lemmas.List.{get_or_read}
use Rattle.string_pool.specs.Pieces.{start_of}
use Rattle.string_pool.proofs.Views.{IsSeen, seen, string_is}
use Rattle.string_pool.proofs.StringPool.bytes.Goals as goal

pub start_of-start-requires : goal.start_of-start-requires
start_of-start-requires c =
    let i = c.self.inside in
    let s : IsSeen c.args.self.now i.bytes.items i.ends.items i.kept i.pool_size i.number_of_strings = seen _ _ _ _ _ _ _ _ _ c.self.view_is c.self.invariant in
    let j : c.args.no < length i.ends.items = omega (arith, c.requires, s.count_is) in
    rw c.deref.ensures.value j

pub index-end-requires : goal.index-end-requires
index-end-requires c =
    let i = c.self.inside in
    let s : IsSeen c.args.self.now i.bytes.items i.ends.items i.kept i.pool_size i.number_of_strings = seen _ _ _ _ _ _ _ _ _ c.self.view_is c.self.invariant in
    let j : c.args.no < length i.ends.items = omega (arith, c.requires, s.count_is) in
    omega (arith, j, i.ends.ok.0)

pub slice_bounds-result-count : goal.slice_bounds-result-count
slice_bounds-result-count c =
    let i = c.self.inside in
    let s : IsSeen c.args.self.now i.bytes.items i.ends.items i.kept i.pool_size i.number_of_strings = seen _ _ _ _ _ _ _ _ _ c.self.view_is c.self.invariant in
    let j : c.args.no < length i.ends.items = omega (arith, c.requires, s.count_is) in
    let order = cut-in_order 0 i.ends.items c.args.no c.self.invariant.in_order j in
    let start : c.start_of-start.result ≡ start_of 0 i.ends.items c.args.no = c.start_of-start.ensures ∙ ap (λ (ends : List ℕ). start_of 0 ends c.args.no) c.deref.ensures.value in
    let end : c.index-end.result.now ≡ get_or i.ends.items c.args.no 0 = get_or_read i.ends.items c.args.no c.index-end.result.now j c.index-end.ensures 0 in
    omega (arith, order, start, end)

pub slice_bounds-result-start : goal.slice_bounds-result-start
slice_bounds-result-start c =
    let i = c.self.inside in
    let s : IsSeen c.args.self.now i.bytes.items i.ends.items i.kept i.pool_size i.number_of_strings = seen _ _ _ _ _ _ _ _ _ c.self.view_is c.self.invariant in
    let j : c.args.no < length i.ends.items = omega (arith, c.requires, s.count_is) in
    let order = cut-in_order 0 i.ends.items c.args.no c.self.invariant.in_order j in
    let start : c.start_of-start.result ≡ start_of 0 i.ends.items c.args.no = c.start_of-start.ensures ∙ ap (λ (ends : List ℕ). start_of 0 ends c.args.no) c.deref.ensures.value in
    let end : c.index-end.result.now ≡ get_or i.ends.items c.args.no 0 = get_or_read i.ends.items c.args.no c.index-end.result.now j c.index-end.ensures 0 in
    omega (arith, order, start, end, c.self.invariant.last, c.self.invariant.within, c.deref-2.ensures.len, i.bytes.ok.0)

pub slice_bounds-result-end : goal.slice_bounds-result-end
slice_bounds-result-end c =
    let i = c.self.inside in
    let s : IsSeen c.args.self.now i.bytes.items i.ends.items i.kept i.pool_size i.number_of_strings = seen _ _ _ _ _ _ _ _ _ c.self.view_is c.self.invariant in
    let j : c.args.no < length i.ends.items = omega (arith, c.requires, s.count_is) in
    let order = cut-in_order 0 i.ends.items c.args.no c.self.invariant.in_order j in
    let start : c.start_of-start.result ≡ start_of 0 i.ends.items c.args.no = c.start_of-start.ensures ∙ ap (λ (ends : List ℕ). start_of 0 ends c.args.no) c.deref.ensures.value in
    let end : c.index-end.result.now ≡ get_or i.ends.items c.args.no 0 = get_or_read i.ends.items c.args.no c.index-end.result.now j c.index-end.ensures 0 in
    let full : length c.deref-2.result.now ≡ length i.bytes.items = ap length c.deref-2.ensures.value in
    omega (arith, order, start, end, c.self.invariant.last, c.self.invariant.within, full)

pub returns : goal.returns
returns c =
    let i = c.self.inside in
    let s : IsSeen c.args.self.now i.bytes.items i.ends.items i.kept i.pool_size i.number_of_strings = seen _ _ _ _ _ _ _ _ _ c.self.view_is c.self.invariant in
    let j : c.args.no < length i.ends.items = omega (arith, c.requires, s.count_is) in
    let order = cut-in_order 0 i.ends.items c.args.no c.self.invariant.in_order j in
    let start : c.start_of-start.result ≡ start_of 0 i.ends.items c.args.no = c.start_of-start.ensures ∙ ap (λ (ends : List ℕ). start_of 0 ends c.args.no) c.deref.ensures.value in
    let end : c.index-end.result.now ≡ get_or i.ends.items c.args.no 0 = get_or_read i.ends.items c.args.no c.index-end.result.now j c.index-end.ensures 0 in
    rw (c.deref-2.ensures.value, end) (string_is _ _ _ _ _ _ _ _ _ c.self.view_is j start)
