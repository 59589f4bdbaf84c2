use Rattle.std.proofs.Common.{◌≡◌, List, ◌∙◌, subst}
use Rattle.line_reader.specs.Ahead.{Ahead, IsWindowAt}
use Rattle.line_reader.proofs.Gathering.{reader_at, ahead_set, read_is, read_none, came_at, some_at, none_at, on_err}
use Rattle.line_reader.proofs.buffer.Buffer.read_on.Goals as goal

pub returns-clause-after : goal.returns-clause-after
returns-clause-after g c =
    let i = c.self.inside in
    let at : IsWindowAt c.args.id i.windows.items c.in-Some.at = subst (λ (ws : List Ahead). IsWindowAt c.args.id ws c.in-Some.at) c.deref.ensures.value c.in-Some.ensures in
    let w = c.index_mut-window.result.now in
    let reader : c.fill.new.self.reader ≡ c.args.id = c.fill.ensures.reader ∙ reader_at c.args.id i.windows.items c.in-Some.at at w c.index_mut-window.ensures.value in
    read_is _ _ _ _ _ _ _ _ _ _ _ c.self.view_is c.self.invariant c.args.id c.in-Some.at c.fill.new.self at reader

pub returns-clause-came : goal.returns-clause-came
returns-clause-came g c =
    let i = c.self.inside in
    let at : IsWindowAt c.args.id i.windows.items c.in-Some.at = subst (λ (ws : List Ahead). IsWindowAt c.args.id ws c.in-Some.at) c.deref.ensures.value c.in-Some.ensures in
    let w = c.index_mut-window.result.now in
    let old : w.reader ≡ c.args.id = reader_at c.args.id i.windows.items c.in-Some.at at w c.index_mut-window.ensures.value in
    let reader : c.fill.new.self.reader ≡ c.args.id = c.fill.ensures.reader ∙ old in
    came_at _ _ _ c.args.id w.reader _ _ old (ahead_set c.args.id i.windows.items c.in-Some.at at c.fill.new.self reader) c.fill.ensures.came

pub returns-clause-some : goal.returns-clause-some
returns-clause-some g c =
    let i = c.self.inside in
    let at : IsWindowAt c.args.id i.windows.items c.in-Some.at = subst (λ (ws : List Ahead). IsWindowAt c.args.id ws c.in-Some.at) c.deref.ensures.value c.in-Some.ensures in
    let w = c.index_mut-window.result.now in
    let old : w.reader ≡ c.args.id = reader_at c.args.id i.windows.items c.in-Some.at at w c.index_mut-window.ensures.value in
    let reader : c.fill.new.self.reader ≡ c.args.id = c.fill.ensures.reader ∙ old in
    some_at _ _ _ (ahead_set c.args.id i.windows.items c.in-Some.at at c.fill.new.self reader) c.fill.ensures.some

pub returns-clause-none : goal.returns-clause-none
returns-clause-none g c =
    let i = c.self.inside in
    let at : IsWindowAt c.args.id i.windows.items c.in-Some.at = subst (λ (ws : List Ahead). IsWindowAt c.args.id ws c.in-Some.at) c.deref.ensures.value c.in-Some.ensures in
    let w = c.index_mut-window.result.now in
    let old : w.reader ≡ c.args.id = reader_at c.args.id i.windows.items c.in-Some.at at w c.index_mut-window.ensures.value in
    let reader : c.fill.new.self.reader ≡ c.args.id = c.fill.ensures.reader ∙ old in
    none_at _ (g.F.Files.told c.fill.new.files) c.args.id w.reader _ _ old (ahead_set c.args.id i.windows.items c.in-Some.at at c.fill.new.self reader) c.fill.ensures.none

pub returns-clause-err : goal.returns-clause-err
returns-clause-err g c =
    let i = c.self.inside in
    let at : IsWindowAt c.args.id i.windows.items c.in-Some.at = subst (λ (ws : List Ahead). IsWindowAt c.args.id ws c.in-Some.at) c.deref.ensures.value c.in-Some.ensures in
    let w = c.index_mut-window.result.now in
    let old : w.reader ≡ c.args.id = reader_at c.args.id i.windows.items c.in-Some.at at w c.index_mut-window.ensures.value in
    let reader : c.fill.new.self.reader ≡ c.args.id = c.fill.ensures.reader ∙ old in
    on_err _ (λ none. read_none _ _ _ _ _ _ _ _ _ _ _ c.self.view_is c.self.invariant c.args.id c.in-Some.at c.fill.new.self at reader c.requires.begun c.requires.used none) c.fill.ensures.err
