use Rattle.std.proofs.Common.{◌≡◌, ℕ, List, [], refl, sym, ap, subst, ◌∙◌, arith, Bool, false}
use Rattle.std.specs.Prelude.{Option, None}
use Rattle.plain_tokens.specs.Printed.{Style}
use Rattle.plain_tokens.specs.Puts.{Put}
use Rattle.plain_tokens.specs.Pending.{Pending, bottom, all_puts}
use Rattle.conditionals.specs.declared.open.Conditional.{Conditional}
use Rattle.conditionals.specs.Open.{Stack as Conditions}
use Rattle.equivalents.specs.Groups.{Groups, first_groups}
use Rattle.equivalents.specs.Holding.{lists_held}
use Rattle.equivalents.specs.Parameters.{style_in}
use Rattle.plain_machine.specs.Numbers.{Tied, pending_of, groups_of}
use Rattle.plain_machine.proofs.GroupNumbers.{first_groups_of}
use Rattle.plain_machine.proofs.Ties.{tied_at_first}
use Rattle.tex_defs.specs.declared.Token.{Token}
use Rattle.prim_table.specs.Primitives.{primitive_names}
use Rattle.plain_machine.specs.Plan.{job_due, first_state, is_known}
use Rattle.name_table.specs.Strings.{Strings}
use Rattle.reading_frames.specs.Stack.{Stack}
use Rattle.reading_frames.specs.Frames as frames
use Rattle.reading_frames.specs.Frames.{AreShallow}
use Rattle.plain_machine.specs.States.{no_files, no_token}
use Rattle.input_state.specs.Stored.{Stored, gathered}
use Rattle.engine_state.proofs.Known.{first_known}
use Rattle.engine_state.specs.Book.{first_book}
use Rattle.engine_state.proofs.Cells.{first_located}
use Rattle.engine_state.proofs.engine.Engine.new.Goals as goal

-- no macro is held
first_tied : (i : Stored) → i.groups ≡ first_groups is_known → all_puts i.pending ≡ [] → Tied first_book.number [] (lists_held i.groups) (all_puts i.pending) i.lists
first_tied i g p =
    subst (λ (x : Groups). Tied first_book.number [] (lists_held x) (all_puts i.pending) i.lists) (sym g)
    (subst (λ (ps : List Put). Tied first_book.number [] (lists_held (first_groups is_known)) ps i.lists) (sym p) (tied_at_first first_book.number [] is_known i.lists))

-- the first state, by its parts
first_at : (pending : Pending) (groups : Groups) (names strings : List (List ℕ)) (gathered : List (List Token)) (making : Option (List Token)) (conditionals : List Conditional) (style : Style) (quiet : Bool) (file : List ℕ) (job : Option (List ℕ)) →
    pending ≡ record bottom { next = job } → groups ≡ first_groups is_known → names ≡ primitive_names → strings ≡ [] → gathered ≡ [] → making ≡ None → conditionals ≡ [] → style ≡ style_in (first_groups is_known).now primitive_names →
    record { pending = pending; files = no_files; naming = false; groups = groups; names = names; strings = strings; all_lists = []; after = None; mag_set = 0; conditionals = conditionals; last = no_token; work = []; gathered = gathered; making = making; in_line = false; reports = 0; flawed = false; quiet = quiet; stopped = None; due = job_due style file job }
    ≡ first_state (first_groups is_known) quiet file job no_files
first_at pending groups names strings gathered making conditionals style quiet file job a b c d e f g h = rw (a, b, c, d, e, f, g, h) refl

pub returns : goal.returns
returns c = let i = c.in_ok-input.ensures in let n = c.in-Ok.ensures in let o = c.in-Ok-new.ensures in let k = c.in-Ok-new-2.ensures in
    let pending = ap (λ (x : Stored). x.pending) i in
    let here = ap (pending_of first_book.number) pending in
    let making = ap (λ (x : Stored). x.making) i in
    let groups = ap (λ (x : Stored). x.groups) i ∙ first_known in
    let numbered = ap (groups_of first_book.number) groups ∙ first_groups_of first_book.number is_known in
    let names = ap (λ (x : Strings). x.names) n in
    let style = ap (λ (x : Groups). style_in x.now c.in-Ok.names.names) groups ∙ ap (λ (ns : List (List ℕ)). style_in (first_groups is_known).now ns) names in
    let others = ap (λ (x : Strings). x.others) n in
    record {
      stands = record {
        sound = record {
          sized = record {
            few_reports = omega arith;
            own = refl;
            readings = ap (λ (x : Stack). x.size) o;
            conditionals = ap (λ (x : Conditions). x.size) k;
            input = ap (λ (x : Stored). x.sizes) i;
            names = ap (λ (x : Strings). x.sizes) n;
            located = first_located is_known _ _ groups names;
          };
          tied = first_tied c.in_ok-input.input groups (ap all_puts pending);
          bodies = tt;
        };
        idle = making;
        readings = record {
          frames = subst (λ (x : Stack). frames.AreFramesOf None x.frames c.in_ok-input.input.builds []) (sym o) (ap (λ (x : Stored). x.builds) i);
          shallow = subst (λ (x : Stack). AreShallow x.frames c.in_ok-input.input.builds) (sym o) tt;
        };
        uncalled = ap (λ (x : Stored). x.call) i;
      };
      state = λ file. first_at _ _ _ _ _ _ _ _ c.args.quiet file None here numbered names others (ap gathered i) making (ap (λ (x : Conditions). x.items) k) style;
      column = refl;
      reports = refl;
      flawed = refl;
      running = refl;
      unopened = pending;
      names = names;
    }
