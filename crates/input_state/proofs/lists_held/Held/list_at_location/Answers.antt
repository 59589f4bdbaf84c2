use Rattle.std.proofs.Common.{ap, ◌∙◌, sym, arith}
use Rattle.std.proofs.lemmas.Option.{IfSome_then}
use Rattle.token_lists.specs.Ids.{id_of}
use Rattle.input_state.specs.HeldLists.{HeldLists}
use Rattle.input_state.specs.HeldViews.{texts}
use Rattle.input_state.specs.AtLocations.{numbered_tokens, location_tokens}
use Rattle.input_state.proofs.Sharing.{text_at}
use Rattle.input_state.proofs.Walking.{option_then}
use Rattle.input_state.proofs.lists_held.Held.list_at_location.Goals as goal

pub returns-clause-held : goal.returns-clause-held
returns-clause-held c = IfSome_then c.list_at.result c.list_at.ensures.held (λ r some. omega (arith, some, c.self.invariant.shared.counted (id_of r.now)))

pub returns-clause-tokens : goal.returns-clause-tokens
returns-clause-tokens c =
    let i = c.self.inside in
    let same = ap (λ (w : HeldLists). location_tokens w.lists w.groups c.args.loc) c.self.view_is in
    option_then c.list_at.result c.list_at.ensures.list
    (λ none. sym same ∙ ap (numbered_tokens (texts i.lists)) none)
    (λ r some. sym (text_at i.lists (id_of r.now)) ∙ sym (ap (numbered_tokens (texts i.lists)) some) ∙ same)
