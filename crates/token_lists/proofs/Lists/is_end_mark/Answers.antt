use Rattle.std.proofs.Common.{ℕ, sym, ap, ◌∙◌}
use Rattle.std.proofs.lemmas.Option.{same_Some}
use Rattle.token_lists.specs.Codes.{token_of, is_end_token}
use Rattle.mem_words.specs.Words.{info_at}
use Rattle.token_lists.specs.Chains.{heads_of}
use Rattle.token_lists.proofs.Views.{token_now, place_is, place_taken}
use Rattle.token_lists.proofs.Lists.is_end_mark.Goals as goal

pub info-requires : goal.info-requires
info-requires c =
    let l = c.self.inside in
    place_taken l.mem.cells (heads_of l.mem.cells l.marks.items) c.args.self.now c.self.invariant c.self.view_is c.args.place c.requires

pub returns : goal.returns
returns c = λ h i t at is.
    let l = c.self.inside in
    let known = place_is l.mem.cells (heads_of l.mem.cells l.marks.items) c.args.self.now c.self.invariant c.self.view_is h i c.args.place at in
    let stored = token_now l.mem.cells (heads_of l.mem.cells l.marks.items) c.args.self.now c.self.invariant c.self.view_is h known.head known.there i known.within in
    let info = ap (λ (p : ℕ). info_at l.mem.cells p) known.is ∙ sym c.info.ensures in
    c.is_end_mark.ensures ∙ ap is_end_token (ap token_of (sym info) ∙ same_Some _ _ (sym stored ∙ is))
