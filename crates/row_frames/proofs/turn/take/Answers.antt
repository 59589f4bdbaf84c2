-- What is made of what comes is what is made of it where the stage stands.
use Rattle.std.proofs.Common.{◌≡◌, List, ◌∷◌, subst, sym, ◌∙◌}
use Rattle.tex_defs.specs.declared.Token.{Token}
use Rattle.rows.specs.declared.words.Datum.{Datum}
use Rattle.rows.specs.declared.stage.Stage.{Stage}
use Rattle.rows.specs.declared.stage.Start.{Start}
use Rattle.rows.specs.declared.stage.Start.TheVariants.{Looks, Begins}
use Rattle.rows.specs.declared.command.Call.{Call}
use Rattle.rows.specs.Stages.{start}
use Rattle.rows.specs.Run.{started}
use Rattle.row_frames.specs.declared.turn.Fed.{Fed}
use Rattle.row_frames.specs.declared.turn.Kept.{Kept}
use Rattle.row_frames.specs.declared.turn.Kept.TheVariants as kept
use Rattle.row_frames.specs.declared.turn.Turn.{Turn}
use Rattle.row_frames.specs.Data.{values}
use Rattle.row_frames.specs.Views.{fed_of}
use Rattle.row_frames.specs.Resumes.{IsTurn, within}
use Rattle.row_frames.proofs.turn.take.Goals as goal

-- what comes leads from here to this turn
abbrev Becomes : Stage → Call → List Datum → List Token → Fed → Turn → Kept → Type 0
Becomes s call ds ts y t here = IsTurn s call ds ts (fed_of ts y) (λ fed. within s call ds here (fed_of ts y ∷ fed)) t

at : (s : Stage) (call : Call) (ds : List Datum) (ts : List Token) (y : Fed) (t : Turn) (here now : Kept) → now ≡ here → Becomes s call ds ts y t here → Becomes s call ds ts y t now
at s call ds ts y t here now e h = subst (Becomes s call ds ts y t) (sym e) h

at_start : (s : Stage) (call : Call) (ds : List Datum) (ts : List Token) (y : Fed) (t : Turn) (first : Start) → start s call ds ≡ first →
    IsTurn s call ds ts (fed_of ts y) (λ fed. started s call first (fed_of ts y ∷ fed)) t → Becomes s call ds ts y t kept.Start
at_start s call ds ts y t first e h = subst (λ (st : Start). IsTurn s call ds ts (fed_of ts y) (λ fed. started s call st (fed_of ts y ∷ fed)) t) (sym e) h

pub returns-in-Looks : goal.returns-in-Looks
returns-in-Looks c ts =
    at c.args.stage c.args.call (values c.args.read.now) ts c.args.y c.looked.result kept.Start c.args.kept c.in-Start.is
    (at_start c.args.stage c.args.call (values c.args.read.now) ts c.args.y c.looked.result (Looks c.in-Looks.want) (sym c.start.ensures ∙ c.in-Looks.is) (c.looked.ensures c.args.call (values c.args.read.now) ts))

pub returns-in-Begins : goal.returns-in-Begins
returns-in-Begins c ts =
    at c.args.stage c.args.call (values c.args.read.now) ts c.args.y c.begun.result kept.Start c.args.kept c.in-Start.is
    (at_start c.args.stage c.args.call (values c.args.read.now) ts c.args.y c.begun.result (Begins c.in-Begins.kind) (sym c.start.ensures ∙ c.in-Begins.is) (c.begun.ensures c.args.call (values c.args.read.now) ts))

pub returns-in-Looking : goal.returns-in-Looking
returns-in-Looking c ts =
    at c.args.stage c.args.call (values c.args.read.now) ts c.args.y c.looked-in-Looking.result (kept.Looking c.in-Looking.call c.in-Looking.want) c.args.kept c.in-Looking.is
    (c.looked-in-Looking.ensures c.args.call (values c.args.read.now) ts)

pub returns-in-Within : goal.returns-in-Within
returns-in-Within c ts =
    at c.args.stage c.args.call (values c.args.read.now) ts c.args.y c.behind.result (kept.Within c.in-Within.kind) c.args.kept c.in-Within.is
    (c.behind.ensures c.args.call (values c.args.read.now) ts)

pub returns-in-Numbered : goal.returns-in-Numbered
returns-in-Numbered c ts =
    at c.args.stage c.args.call (values c.args.read.now) ts c.args.y c.numbered.result (kept.Numbered c.in-Numbered.bank) c.args.kept c.in-Numbered.is
    (c.numbered.ensures c.args.stage c.args.call (values c.args.read.now) ts)

pub returns-in-Noting : goal.returns-in-Noting
returns-in-Noting c ts =
    at c.args.stage c.args.call (values c.args.read.now) ts c.args.y c.noted.result (kept.Noting c.in-Noting.note c.in-Noting.next) c.args.kept c.in-Noting.is
    (c.noted.ensures c.args.stage c.args.call (values c.args.read.now) ts)

pub returns-in-Retrying : goal.returns-in-Retrying
returns-in-Retrying c ts =
    at c.args.stage c.args.call (values c.args.read.now) ts c.args.y c.looks_again.result (kept.Retrying c.in-Retrying.call c.in-Retrying.want c.in-Retrying.note) c.args.kept c.in-Retrying.is
    (c.looks_again.ensures c.args.call (values c.args.read.now) ts)
