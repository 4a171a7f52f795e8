-- The greatest of the nestings that the range of items gives. Assumes nothing.
use Rattle.std.proofs.Common.{ℕ, ◌+◌, get_or, sym, ap, ◌∙◌, arith, rules}
use Rattle.std.proofs.lemmas.Iterator.Adapters.{option_map_id}
use Rattle.std.proofs.lemmas.Iterator.{YieldsList-from_range, YieldsList-from_map}
use Rattle.std.proofs.lemmas.Iterator.Consumers.{max_from_yields_List}
use Rattle.std.specs.Option.{unwrap_or}
use Rattle.x696.specs.Table.{item_word}
use Rattle.table.proofs.Loops.{greatest_max}
use Rattle.table.proofs.nestings.greatest_nesting.Goals as goal

pub returns : goal.returns
returns c =
    let nestings = c.args.nestings.now in
    let items = c.args.items.now in
    let named = λ (i : ℕ). get_or nestings (item_word items i c.args.j) 0 in
    c.unwrap_or.ensures
    ∙ (ap (λ o. unwrap_or o 0)
    (sym (option_map_id _)
    ∙ max_from_yields_List _ _ c.max.ensures.ran
    (YieldsList-from_map _ named (YieldsList-from_range c.args.first (c.args.first + c.args.n) c.args.n c.map.ensures.source (omega arith)) c.map.ensures.closure (λ x r q k. search rules)))
    ∙ greatest_max named c.args.first c.args.n)
