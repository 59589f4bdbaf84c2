use Rattle.std.proofs.Common.{sym, ◌∙◌}
use Rattle.token_show.specs.Views.{names_style}
use Rattle.token_show.proofs.Steps.{after_token}
use Rattle.token_show.proofs.characters.Characters.next.Goals as goal

pub returns : goal.returns
returns c =
    let s = c.self.inside in
    sym c.self.view_is
    ∙ after_token (names_style s.names) s.room c.take.new.room c.take-2.new.room s.places s.last c.places_after-self-inside.result c.last_after-self-inside.result
    c.in-Some-take.c c.in-Some-next.token s.piece c.begin-self-inside.result c.take-2.new.piece s.walk c.next.new.self c.begin-self-inside.new.walk
    c.in_default.ensures.0 c.in_default.ensures.2 c.in-Some-next.ensures c.begin-self-inside.ensures.text c.places_after-self-inside.ensures.after
    c.last_after-self-inside.ensures c.in-Some-take.ensures.0 c.in-Some-take.ensures.1
