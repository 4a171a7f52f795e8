-- Kind 3: what `all` finds of the range of the items is `every` of them, and `ascending`. Assumes nothing.
use Rattle.std.proofs.Common.{◌≡◌, arith, rules, tests}
use Rattle.std.proofs.lemmas.Grind.{common_steps}
use Rattle.x696.specs.Outcome.{choose}
use Rattle.x696.specs.Table.{rest_zero}
use Rattle.x696.specs.TableCheck.{given, every, ascending, enumerated_sound}
use Rattle.table.specs.Orders.{rank_before}
use Rattle.table.proofs.Loops.{every_of, ascending_of}
use Rattle.table.proofs.rules.enumerated_sound.Goals as goal

pub returns-then-all : goal.returns-then-all
unfolding enumerated_sound given choose
returns-then-all c =
    let items = c.args.items.now in
    let first = c.row_first-first.result in
    let n = c.row_count-n.result in
    let rest : c.all.result ≡ every (λ i. rest_zero items i) first n = every_of _ _ _ (cc) c.all.ensures.ran (λ x b q k. search (rules, tests)) in
    let up : c.all-then-all.result ≡ ascending (λ i j. rank_before items i j) first n = ascending_of _ _ _ (cc) c.all-then-all.ensures.ran (λ x b q k. search (rules, tests)) in
    grind (arith, common_steps)

pub returns-else-all : goal.returns-else-all
unfolding enumerated_sound given choose
returns-else-all c =
    let items = c.args.items.now in
    let first = c.row_first-first.result in
    let n = c.row_count-n.result in
    let rest : c.all.result ≡ every (λ i. rest_zero items i) first n = every_of _ _ _ (cc) c.all.ensures.ran (λ x b q k. search (rules, tests)) in
    grind (arith, common_steps)
