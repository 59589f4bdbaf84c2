use Rattle.std.proofs.Common.{◌∷◌, ap, ◌∙◌, refl}
use Rattle.world_io.specs.declared.traits.InId.{InId}
use Rattle.world_io.specs.Contents.{SameFiles, OpensReader}
use Rattle.line_reader.specs.Readers.{OpenReader}
use Rattle.line_reader.proofs.OpenFiles.{some_of, none_of, opens, opens_open, opens_knows, keeps, agree_same, still_open, still_knows}
use Rattle.line_reader.proofs.readers.Readers.open.Goals as goal

pub returns-in-Ok-Some-clause-answer : goal.returns-in-Ok-Some-clause-answer
returns-in-Ok-Some-clause-answer g c =
    let P = λ (i : InId). OpensReader i.number c.args.name.now (g.F.Files.told c.args.files.now) (g.F.Files.told c.open_in.new.self) in
    opens _ _ _ _ _ _ (some_of _ c.in-Ok-Some.id P c.in-Ok-Some.field-0-is c.in-Ok-Some.ensures.opened) (c.push.ensures ∙ ap (λ (r : OpenReader). record c.args.self.now { readers = r ∷ c.args.self.now.readers }) c.new.ensures) c.requires.open

pub returns-in-Ok-Some-clause-open : goal.returns-in-Ok-Some-clause-open
returns-in-Ok-Some-clause-open g c =
    let P = λ (i : InId). OpensReader i.number c.args.name.now (g.F.Files.told c.args.files.now) (g.F.Files.told c.open_in.new.self) in
    opens_open _ _ _ _ _ _ (some_of _ c.in-Ok-Some.id P c.in-Ok-Some.field-0-is c.in-Ok-Some.ensures.opened) (c.push.ensures ∙ ap (λ (r : OpenReader). record c.args.self.now { readers = r ∷ c.args.self.now.readers }) c.new.ensures) c.requires.open

pub returns-in-Ok-Some-clause-knows : goal.returns-in-Ok-Some-clause-knows
returns-in-Ok-Some-clause-knows g c =
    let P = λ (i : InId). OpensReader i.number c.args.name.now (g.F.Files.told c.args.files.now) (g.F.Files.told c.open_in.new.self) in
    opens_knows _ _ _ _ _ _ (some_of _ c.in-Ok-Some.id P c.in-Ok-Some.field-0-is c.in-Ok-Some.ensures.opened) (c.push.ensures ∙ ap (λ (r : OpenReader). record c.args.self.now { readers = r ∷ c.args.self.now.readers }) c.new.ensures) c.requires.open

pub returns-in-Ok-None-clause-answer : goal.returns-in-Ok-None-clause-answer
returns-in-Ok-None-clause-answer g c =
    let e = c.in-Ok-None.field-0-is in
    (none_of _ _ e c.in-Ok-None.ensures.missing, keeps _ _ _ _ (none_of _ (SameFiles (g.F.Files.told c.args.files.now) (g.F.Files.told c.open_in.new.self)) e c.in-Ok-None.ensures.none) refl)

pub returns-in-Ok-None-clause-open : goal.returns-in-Ok-None-clause-open
returns-in-Ok-None-clause-open g c =
    let same = none_of _ (SameFiles (g.F.Files.told c.args.files.now) (g.F.Files.told c.open_in.new.self)) c.in-Ok-None.field-0-is c.in-Ok-None.ensures.none in
    still_open _ _ _ (agree_same _ _ _ same) c.requires.open

pub returns-in-Ok-None-clause-knows : goal.returns-in-Ok-None-clause-knows
returns-in-Ok-None-clause-knows g c =
    let same = none_of _ (SameFiles (g.F.Files.told c.args.files.now) (g.F.Files.told c.open_in.new.self)) c.in-Ok-None.field-0-is c.in-Ok-None.ensures.none in
    still_knows _ _ _ (agree_same _ _ _ same)

pub returns-in-Err-clause-err : goal.returns-in-Err-clause-err
returns-in-Err-clause-err g c = keeps _ _ _ _ c.in-Err.ensures.err refl

pub returns-in-Err-clause-open : goal.returns-in-Err-clause-open
returns-in-Err-clause-open g c = still_open _ _ _ (agree_same _ _ _ c.in-Err.ensures.err) c.requires.open

pub returns-in-Err-clause-knows : goal.returns-in-Err-clause-knows
returns-in-Err-clause-knows g c = still_knows _ _ _ (agree_same _ _ _ c.in-Err.ensures.err)
