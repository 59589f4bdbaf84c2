use Rattle.std.proofs.Common.{◌≡◌, ◌+◌, ◌++◌, [], ◌∷◌, ℕ, length, ap, ◌∙◌, subst, arith}
use Rattle.tex_defs.specs.declared.Token.{Token}
use Rattle.token_lists.specs.Table.{words, tokens_at}
use Rattle.token_lists.specs.Ids.{build_id}
use Rattle.input_state.specs.Appends.{changed}
use Rattle.input_state.specs.Changes.{IsOnly}
use Rattle.input_state.proofs.Copying.{only_join, on_kept, rest_kept, copied_more}
use Rattle.input_state.proofs.appending.append_from.Goals as goal

pub loop-token-preserved : goal.loop-token-preserved
loop-token-preserved c =
    let m = c.loop-token.invariant in
    let e = c.in_ok-append.ensures in
    let old = c.args.lists.now in
    let mid = c.loop-token.lists in
    let new = c.append.new.lists in
    let built = build_id c.args.build.now in
    let f = changed c.args.change c.args.table.now.groups.now in
    let token = c.in-Some.token in
    let next = c.in-Some.next in
    let only : IsOnly mid new built = subst (λ (k : ℕ). IsOnly mid new k) m.same e.others in
    let more : tokens_at new built ≡ tokens_at mid built ++ f token ∷ [] = subst (λ (k : ℕ). tokens_at new k ≡ tokens_at mid k ++ f token ∷ []) m.same (e.grown ∙ ap (λ (t : Token). tokens_at mid (build_id c.loop-token.build) ++ t ∷ []) c.apply.ensures) in
    let one : words new + length (tokens_at mid built) ≡ words mid + length (tokens_at new built) = subst (λ (k : ℕ). words new + length (tokens_at mid k) ≡ words mid + length (tokens_at new k)) m.same e.words in
    record {
      building = e.building;
      same = e.same ∙ m.same;
      others = only_join old mid new built m.others only;
      account = λ h. omega (arith, m.account h, e.account h);
      words = omega (arith, m.words, one);
      size = e.length ∙ m.size;
      copied = λ id on apart.
          let k = m.copied id on apart in
          let steps = c.in-Some.ensures id k.0 in
          (on_kept mid new built id only apart next steps.1, copied_more f old built id c.args.from mid c.loop-token.at k.1 token next steps new more (rest_kept mid new built id only apart next));
    }
