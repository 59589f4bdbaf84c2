use Rattle.std.proofs.Common.{arith, ◌-◌, ◌<◌, suc, get_or, ap, sym, ◌∙◌, ℕ, List, []}
use Rattle.prim_table.specs.Primitives.{primitive_name}
use Rattle.prim_table.specs.declared.TheConstants.{TEXT, STARTS}
use Rattle.prim_table.proofs.Table.{table_is}
use Rattle.prim_table.proofs.WordLemmas.{word_of}
use Rattle.prim_table.proofs.name.Goals as goal

pub returns : goal.returns
unfolding primitive_name
returns c =
    let inside : suc (c.args.j - 1) < 187 = omega (arith, c.requires.first, c.requires.last) in
    c.word.ensures ∙ sym (word_of TEXT.now STARTS (c.args.j - 1) inside) ∙ ap (λ (names : List (List ℕ)). get_or names (c.args.j - 1) []) table_is
