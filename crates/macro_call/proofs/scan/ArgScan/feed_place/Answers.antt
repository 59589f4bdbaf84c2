use Rattle.std.proofs.Common.{refl}
use Rattle.token_lists.specs.Ids.{id_of}
use Rattle.macro_call.specs.declared.present.Step.TheVariants as step
use Rattle.macro_call.proofs.Answered.{parts_at, going, skipped, braced, ended, whole_ok, whole_err, cut_step}
use Rattle.macro_call.proofs.scan.ArgScan.feed_place.Goals as goal

pub returns-in-Err-clause-cut_short : goal.returns-in-Err-clause-cut_short
returns-in-Err-clause-cut_short c =
    cut_step c.args.lists.now c.take_step.new.lists (id_of c.args.list.now) c.args.self.now c.args.x c.args.self.now.present c.take_step.new.present refl c.requires.sound c.take_step.ensures.account c.in-Err.ensures.cut_short

pub returns-in-Argument-clause-answers : goal.returns-in-Argument-clause-answers
returns-in-Argument-clause-answers c =
    whole_ok c.args.lists.now c.take_step.new.lists (id_of c.args.list.now) c.args.self.now c.args.x c.take_step.new.present c.requires.sound c.take_step.ensures.account _ refl c.complete.new.lists c.complete.new.self
    (parts_at c.args.lists.now c.take_step.new.lists (id_of c.args.list.now) c.args.self.now.cursor c.args.self.now.mode c.args.x c.in-Ok.step step.Argument c.args.self.now.present c.take_step.new.present c.in-Argument.is c.in-Ok.ensures.took) c.complete.ensures.completes
    c.enter.new.lists c.enter.new.self c.enter.result c.enter.ensures.enters

pub returns-in-Argument-clause-cut_short : goal.returns-in-Argument-clause-cut_short
returns-in-Argument-clause-cut_short c =
    whole_err c.args.lists.now c.take_step.new.lists (id_of c.args.list.now) c.args.self.now c.args.x c.take_step.new.present c.requires.sound c.take_step.ensures.account _ refl c.complete.new.lists c.complete.new.self
    (parts_at c.args.lists.now c.take_step.new.lists (id_of c.args.list.now) c.args.self.now.cursor c.args.self.now.mode c.args.x c.in-Ok.step step.Argument c.args.self.now.present c.take_step.new.present c.in-Argument.is c.in-Ok.ensures.took) c.complete.ensures.completes
    c.enter.new.lists c.enter.new.self c.enter.result c.enter.ensures.err c.enter.ensures.unchanged c.enter.ensures.place

pub returns-in-ExtraBrace-clause-answers : goal.returns-in-ExtraBrace-clause-answers
returns-in-ExtraBrace-clause-answers c =
    braced c.args.lists.now c.take_step.new.lists (id_of c.args.list.now) c.args.self.now c.args.x c.take_step.new.present c.requires.sound c.take_step.ensures.account
    (parts_at c.args.lists.now c.take_step.new.lists (id_of c.args.list.now) c.args.self.now.cursor c.args.self.now.mode c.args.x c.in-Ok.step step.ExtraBrace c.args.self.now.present c.take_step.new.present c.in-ExtraBrace.is c.in-Ok.ensures.took)

pub returns-in-ParEnded-clause-answers : goal.returns-in-ParEnded-clause-answers
returns-in-ParEnded-clause-answers c =
    ended c.args.lists.now c.take_step.new.lists (id_of c.args.list.now) c.args.self.now c.args.x c.take_step.new.present c.requires.sound c.take_step.ensures.account c.is_checked.result c.is_checked.ensures
    (parts_at c.args.lists.now c.take_step.new.lists (id_of c.args.list.now) c.args.self.now.cursor c.args.self.now.mode c.args.x c.in-Ok.step step.ParEnded c.args.self.now.present c.take_step.new.present c.in-ParEnded.is c.in-Ok.ensures.took)

pub returns-in-Skipped-clause-answers : goal.returns-in-Skipped-clause-answers
returns-in-Skipped-clause-answers c =
    skipped c.args.lists.now c.take_step.new.lists (id_of c.args.list.now) c.args.self.now c.args.x c.take_step.new.present c.requires.sound c.take_step.ensures.account
    (parts_at c.args.lists.now c.take_step.new.lists (id_of c.args.list.now) c.args.self.now.cursor c.args.self.now.mode c.args.x c.in-Ok.step step.Skipped c.args.self.now.present c.take_step.new.present c.in-Skipped.is c.in-Ok.ensures.took)

pub returns-in-Going-clause-answers : goal.returns-in-Going-clause-answers
returns-in-Going-clause-answers c =
    going c.args.lists.now c.take_step.new.lists (id_of c.args.list.now) c.args.self.now c.args.x c.take_step.new.present c.requires.sound c.take_step.ensures.account
    (parts_at c.args.lists.now c.take_step.new.lists (id_of c.args.list.now) c.args.self.now.cursor c.args.self.now.mode c.args.x c.in-Ok.step step.Going c.args.self.now.present c.take_step.new.present c.in-Going.is c.in-Ok.ensures.took)
