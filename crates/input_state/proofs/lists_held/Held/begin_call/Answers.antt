use Rattle.std.proofs.Common.{◌≡◌, ◌∙◌, List, ap, sym, arith}
use Rattle.tex_defs.specs.declared.Token.{Token}
use Rattle.token_lists.specs.Table.{tokens_at}
use Rattle.token_lists.specs.Ids.{id_of}
use Rattle.macro_call.specs.PlainScans.{first_scan}
use Rattle.plain_tokens.specs.Arguments.{has_parameters, begins_with_place, mode_of}
use Rattle.plain_tokens.specs.Meanings.{name_meaning}
use Rattle.plain_tokens.specs.Tables.{lists_words}
use Rattle.input_state.specs.HeldLists.{HeldLists}
use Rattle.input_state.specs.Calls.{call_kind, text_of}
use Rattle.input_state.specs.Callings.{Calling, Gathering, call_lists}
use Rattle.input_state.specs.HeldViews.{named, texts}
use Rattle.input_state.specs.declared.gathering.Gathering.TheVariants as call
use Rattle.input_state.proofs.Sharing.{text_at}
use Rattle.input_state.proofs.Calling.{not_gathered, gathers_some}
use Rattle.input_state.proofs.Letting.{no_call}
use Rattle.input_state.proofs.Recalling.{recalls_sound, recalls_view, recalls_macros, recalls_words}
use Rattle.input_state.proofs.Sounds.{full_now}
use Rattle.input_state.proofs.Called.{named_text, begun_fits, begun_full}
use Rattle.input_state.proofs.lists_held.Held.begin_call.Goals as goal

pub unreachable-requires : goal.unreachable-requires
unreachable-requires c =
    let i = c.self.inside in
    not_gathered (texts i.lists) (name_meaning i.table.groups.now.meanings c.args.name) c.in_default.ensures.list
    (ap (λ (w : HeldLists). call_kind w.lists (name_meaning w.groups.now.meanings c.args.name)) c.self.view_is ∙ c.requires.gathers)

pub begin-requires-clause-gathers : goal.begin-requires-clause-gathers
begin-requires-clause-gathers c =
    let i = c.self.inside in
    let id = id_of c.in-Some.list.now in
    ap has_parameters (sym (text_at i.lists id))
    ∙ gathers_some (texts i.lists) (name_meaning i.table.groups.now.meanings c.args.name) id c.in-Some.ensures.list
    (ap (λ (w : HeldLists). call_kind w.lists (name_meaning w.groups.now.meanings c.args.name)) c.self.view_is ∙ c.requires.gathers)

pub invariant_of-self : goal.invariant_of-self
invariant_of-self c =
    let i = c.self.inside in
    recalls_sound i.lists c.begin.new.lists i.stack i.making i.builds.items i.table i.call call.None c.in-Ok.call c.replace.new.dest i.sizes _ c.self.invariant (no_call i.lists i.call (ap (λ (w : HeldLists). w.call) c.self.view_is ∙ c.requires.none)) c.replace.ensures.after (c.in-Ok.ensures.recalls i.table c.in-Some.ensures.list)

pub returns-in-Ok-clause-keeps : goal.returns-in-Ok-clause-keeps
returns-in-Ok-clause-keeps c =
    let i = c.self.inside in
    recalls_macros i.lists c.begin.new.lists i.stack i.making i.builds.items i.table i.call call.None c.in-Ok.call c.replace.new.dest i.sizes _ c.self.invariant (no_call i.lists i.call (ap (λ (w : HeldLists). w.call) c.self.view_is ∙ c.requires.none)) c.replace.ensures.after (c.in-Ok.ensures.recalls i.table c.in-Some.ensures.list) c.args.self.now c.self.view_is

pub returns-in-Ok-clause-ok : goal.returns-in-Ok-clause-ok
returns-in-Ok-clause-ok c =
    let i = c.self.inside in
    let v = c.args.self.now in
    let text : tokens_at i.lists (id_of c.in-Some.list.now) ≡ text_of v.lists v.groups.now.meanings c.args.name = named_text i.lists i.table c.args.name (id_of c.in-Some.list.now) v c.in-Some.ensures.list (ap (λ (w : HeldLists). w.lists) c.self.view_is) (ap (λ (w : HeldLists). w.groups) c.self.view_is) in
    recalls_view i.lists c.begin.new.lists i.stack i.making i.builds.items i.table i.call call.None c.in-Ok.call c.replace.new.dest i.sizes _ c.self.invariant (no_call i.lists i.call (ap (λ (w : HeldLists). w.call) c.self.view_is ∙ c.requires.none)) c.replace.ensures.after (c.in-Ok.ensures.recalls i.table c.in-Some.ensures.list) v c.self.view_is
    ∙ ap (λ (k : Calling). let w : HeldLists = record v { call = k; lists = texts c.begin.new.lists } in w) (c.in-Ok.ensures.first ∙ ap (λ (ts : List Token). Gathering c.args.name (first_scan ts (mode_of c.args.long))) text)

pub returns-in-Ok-clause-refused : goal.returns-in-Ok-clause-refused
returns-in-Ok-clause-refused c =
    let i = c.self.inside in
    let v = c.args.self.now in
    let text : tokens_at i.lists (id_of c.in-Some.list.now) ≡ text_of v.lists v.groups.now.meanings c.args.name = named_text i.lists i.table c.args.name (id_of c.in-Some.list.now) v c.in-Some.ensures.list (ap (λ (w : HeldLists). w.lists) c.self.view_is) (ap (λ (w : HeldLists). w.groups) c.self.view_is) in
    let first = c.in-Ok.ensures.first ∙ ap (λ (ts : List Token). Gathering c.args.name (first_scan ts (mode_of c.args.long))) text in
    let all = recalls_words i.lists c.begin.new.lists i.stack i.making i.builds.items i.table i.call call.None c.in-Ok.call c.replace.new.dest i.sizes _ c.self.invariant (no_call i.lists i.call (ap (λ (w : HeldLists). w.call) c.self.view_is ∙ c.requires.none)) c.replace.ensures.after (c.in-Ok.ensures.recalls i.table c.in-Some.ensures.list) v c.self.view_is in
    let now = recalls_sound i.lists c.begin.new.lists i.stack i.making i.builds.items i.table i.call call.None c.in-Ok.call c.replace.new.dest i.sizes _ c.self.invariant (no_call i.lists i.call (ap (λ (w : HeldLists). w.call) c.self.view_is ∙ c.requires.none)) c.replace.ensures.after (c.in-Ok.ensures.recalls i.table c.in-Some.ensures.list) in
    begun_fits v (text_of v.lists v.groups.now.meanings c.args.name) c.args.name (mode_of c.args.long) c.used-words.result c.requires.none
    (omega (arith, c.used-words.ensures.is, all, ap (λ (k : Calling). lists_words (call_lists k)) first)) (omega (arith, c.used-words.ensures.within, now.sized.memory, ap (λ (w : HeldLists). w.sizes.main_memory_size) c.self.view_is))

pub returns-in-Err-clause-refused : goal.returns-in-Err-clause-refused
returns-in-Err-clause-refused c =
    let i = c.self.inside in
    let v = c.args.self.now in
    let text : tokens_at i.lists (id_of c.in-Some.list.now) ≡ text_of v.lists v.groups.now.meanings c.args.name = named_text i.lists i.table c.args.name (id_of c.in-Some.list.now) v c.in-Some.ensures.list (ap (λ (w : HeldLists). w.lists) c.self.view_is) (ap (λ (w : HeldLists). w.groups) c.self.view_is) in
    begun_full v (text_of v.lists v.groups.now.meanings c.args.name) c.in-Err.full (sym (ap begins_with_place text) ∙ c.in-Err.ensures.place)
    (full_now i.lists i.stack i.making i.builds.items (named i.table i.call) i.sizes _ c.self.invariant v c.self.view_is c.in-Err.full c.in-Err.ensures.full)
