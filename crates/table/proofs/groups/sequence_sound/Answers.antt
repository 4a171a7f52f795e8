-- Kind 10: what `all` finds of the range of the items is `every` of them. Assumes nothing.
use Rattle.std.proofs.Common.{◌≡◌, arith, rules, tests}
use Rattle.std.proofs.lemmas.Grind.{common_steps}
use Rattle.x696.specs.Outcome.{choose}
use Rattle.x696.specs.TableCheck.{given, every, component_sound, sequence_sound}
use Rattle.table.proofs.Loops.{every_of}
use Rattle.table.proofs.groups.sequence_sound.Goals as goal

pub returns : goal.returns
unfolding sequence_sound given choose
returns c =
    let each : c.all.result ≡ every (λ i. component_sound c.args.rows.now c.args.items.now c.args.row i) c.row_first-first.result c.row_count-n.result =
    every_of _ _ _ (cc) c.all.ensures.ran (λ x b q k. search (rules, tests)) in
    grind (arith, common_steps)
