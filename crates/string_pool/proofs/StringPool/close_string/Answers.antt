use Rattle.std.proofs.Common.{◌≡◌, ◌≢◌, ◌≤◌, length, [], ◌∷◌, ◌++◌, sym, ◌∙◌, arith}
use Rattle.std.proofs.lemmas.List.{length_push}
use Rattle.string_pool.proofs.Cuts.{AreInOrder-push, last_end-push}
use Rattle.string_pool.proofs.Views.{IsSeen, seen, closed_is, string_room}
use Rattle.string_pool.proofs.StringPool.close_string.Goals as goal

pub unreachable-requires : goal.unreachable-requires
unreachable-requires c =
    let i = c.self.inside in
    let s : IsSeen c.args.self.now i.bytes.items i.ends.items i.kept i.pool_size i.number_of_strings = seen _ _ _ _ _ _ _ _ _ c.self.view_is c.self.invariant in
    let room : length c.args.self.now.kept ≢ c.args.self.now.number_of_strings = string_room c.args.self.now (λ full is. c.in_default.not-Some full (c.refusal.ensures ∙ is)) in
    room (omega (arith, s.count_is, s.strings_is, c.self.invariant.strings_fit, c.self.invariant.strings_reserved, c.in_default-push.ensures.full, i.ends.ok.0))

pub invariant_of-self : goal.invariant_of-self
invariant_of-self c =
    let i = c.self.inside in
    let inv = c.self.invariant in
    let end : c.len-end.result ≡ length i.bytes.items = c.len-end.ensures ∙ i.bytes.ok.0 in
    let s : IsSeen c.args.self.now i.bytes.items i.ends.items i.kept i.pool_size i.number_of_strings = seen _ _ _ _ _ _ _ _ _ c.self.view_is inv in
    let room : length c.args.self.now.kept ≢ c.args.self.now.number_of_strings = string_room c.args.self.now (λ full is. c.in_default.not-Some full (c.refusal.ensures ∙ is)) in
    let free : length i.ends.items ≢ i.number_of_strings = λ same. room (s.count_is ∙ same ∙ sym s.strings_is) in
    let fits : length (i.ends.items ++ c.len-end.result ∷ []) ≤ i.number_of_strings = omega (arith, free, inv.strings_fit, length_push i.ends.items c.len-end.result) in
    rw c.in-Ok.ensures.items (record {
      in_order = AreInOrder-push 0 i.ends.items c.len-end.result inv.in_order (omega (arith, inv.last, inv.within, end));
      last = last_end-push 0 i.ends.items c.len-end.result;
      within = omega (arith, end);
      nothing_open = λ _. sym end;
      bytes_fit = inv.bytes_fit;
      strings_fit = fits;
      small_pool = inv.small_pool;
      few_strings = inv.few_strings;
      bytes_reserved = inv.bytes_reserved;
      strings_reserved = omega (arith, inv.strings_reserved, c.in-Ok.ensures.capacity);
    })

pub returns-clause-number : goal.returns-clause-number
returns-clause-number c =
    let i = c.self.inside in
    let s : IsSeen c.args.self.now i.bytes.items i.ends.items i.kept i.pool_size i.number_of_strings = seen _ _ _ _ _ _ _ _ _ c.self.view_is c.self.invariant in
    omega (arith, s.count_is, i.ends.ok.0, c.len-no.ensures)

pub returns-clause-after : goal.returns-clause-after
returns-clause-after c =
    let i = c.self.inside in
    rw (c.in-Ok.ensures.items, c.len-end.ensures, i.bytes.ok.0) (closed_is _ _ _ _ _ _ _ _ _ c.self.view_is c.self.invariant c.requires)
