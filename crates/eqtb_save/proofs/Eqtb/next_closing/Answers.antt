use Rattle.std.proofs.Common.{ap, sym, ◌∙◌, arith}
use Rattle.eqtb_save.specs.Table.{Table}
use Rattle.eqtb_save.specs.Holding.{held}
use Rattle.eqtb_save.proofs.Next.{next_given, all_given}
use Rattle.eqtb_save.proofs.Eqtb.next_closing.Goals as goal

pub invariant_of-self : goal.invariant_of-self
invariant_of-self c = record {
  whole = c.self.invariant.whole;
  codes = c.self.invariant.codes;
  save_size = c.self.invariant.save_size;
  most = c.self.invariant.most;
  rooms = c.self.invariant.rooms;
  levels = c.self.invariant.levels;
  idle = λ none. absurd (c.requires (ap (λ (t : Table). t.ending) (sym c.self.view_is) ∙ none));
}

pub returns-then-self-len-clause-step : goal.returns-then-self-len-clause-step
returns-then-self-len-clause-step c =
    next_given _ c.self.inside.closing.items c.self.inside.given c.self.inside.ending c.self.inside.sizes c.args.self.now c.self.view_is c.index-token.result.now
    (omega (arith, c.if-self-len.true, c.len.ensures, c.self.inside.closing.ok.0)) c.index-token.ensures

pub returns-then-self-len-clause-account : goal.returns-then-self-len-clause-account
returns-then-self-len-clause-account c = λ h. ap (λ (t : Table). held t h) c.self.view_is

pub unreachable-requires : goal.unreachable-requires
unreachable-requires c = c.requires (ap (λ (t : Table). t.ending) (sym c.self.view_is) ∙ c.in_default.is)

pub invariant_of-self-2 : goal.invariant_of-self-2
invariant_of-self-2 c = record {
  whole = c.self.invariant.whole;
  codes = c.self.invariant.codes;
  save_size = c.self.invariant.save_size;
  most = c.self.invariant.most;
  rooms = c.self.invariant.rooms;
  levels = c.self.invariant.levels;
  idle = λ none. omega (arith, c.if-self-len.false, c.len.ensures, c.self.inside.closing.ok.0);
}

pub returns-clause-step : goal.returns-clause-step
returns-clause-step c =
    all_given _ c.self.inside.closing.items c.self.inside.given c.self.inside.ending c.self.inside.sizes c.args.self.now c.self.view_is c.in-Some.kind
    (omega (arith, c.if-self-len.false, c.len.ensures, c.self.inside.closing.ok.0)) c.in-Some.is

pub returns-clause-account : goal.returns-clause-account
returns-clause-account c = λ h. ap (λ (t : Table). held t h) c.self.view_is
