use Rattle.std.proofs.Common.{◌≡◌, ◌∙◌, Bool, true, [], ◌++◌, sym, subst}
use Rattle.std.specs.Prelude.{if◌then◌else◌}
use Rattle.equivalents.specs.Locations.{value_seen}
use Rattle.equivalents.specs.Tables.{get}
use Rattle.rows.specs.Internal.{is_fetchable, value_text}
use Rattle.plain_machine.specs.Plan.{put_characters}
use Rattle.plain_machine.specs.Does.{Did}
use Rattle.engine_state.specs.Rules.{Cuts}
use Rattle.engine_state.specs.Stands.{page_of, state_of}
use Rattle.engine_state.proofs.Joining.{on_ok, err_to}
use Rattle.stomach.proofs.effects.put_value.Goals as goal

pub returns-then-is_fetchable-clause-did : goal.returns-then-is_fetchable-clause-did
returns-then-is_fetchable-clause-did c = let e = c.args.engine.now in let e1 = c.put_characters.new.self in let l = c.args.loc in
    let there : is_fetchable l ≡ true = sym c.is_fetchable.ensures ∙ c.if-is_fetchable.true in
    on_ok c.put_characters.result (λ h small sizes w book counts.
    subst (λ (b : Bool). Did sizes (state_of e book) (state_of e1 book) w w (put_characters (if b then value_text l (value_seen (get (page_of e book).now l)) else []))) there (h sizes w book counts c.requires.idle)) c.put_characters.ensures.did

pub returns-then-is_fetchable-clause-err : goal.returns-then-is_fetchable-clause-err
returns-then-is_fetchable-clause-err c = let e = c.args.engine.now in let e1 = c.put_characters.new.self in let l = c.args.loc in
    let there : is_fetchable l ≡ true = sym c.is_fetchable.ensures ∙ c.if-is_fetchable.true in
    err_to c.put_characters.result (λ b h sizes w book more counts.
    subst (λ (x : Bool). Cuts sizes (state_of e book) e1 book w w (put_characters (if x then value_text l (value_seen (get (page_of e book).now l)) else []) ++ more) b) there (h sizes w book more counts c.requires.idle)) c.put_characters.ensures.err
