-- A step from each stage, by the function for it. Assumes nothing.
use borrow.Author.Rules.{rules}
use native.Mathlib.Omega.{arith}
use Rattle.feed.proofs.Heads.{table_head}
use Rattle.feed.proofs.Stepping.{at_head, at_table, steps}
use Rattle.feed.proofs.step.Goals as goal

pub advanced-requires : goal.advanced-requires
advanced-requires c = omega (arith, c.requires, (c.take_head.ensures c.args.table.now c.args.store.now).within)

pub take_table-requires : goal.take_table-requires
take_table-requires c = let h = at_table c.requires.0.stands c.in-Table.is in
    let l = c.requires.0.stands.lent in
    (h.short, omega (arith, (table_head h.head h.head_is).at_most), l.table_long, l.store_long, omega arith, omega arith)

pub advanced-requires-in-Table : goal.advanced-requires-in-Table
advanced-requires-in-Table c = omega (arith, c.requires, (c.take_table.ensures c.args.part.now).within)

pub returns-in-Head : goal.returns-in-Head
returns-in-Head c =
    steps (λ b said s. at_head s c.in-Head.is) (λ l. record { table_long = l.table_long; store_long = l.store_long; part_long = search rules }) (c.take_head.ensures _ _) c.advanced.ensures

pub returns-in-Table : goal.returns-in-Table
returns-in-Table c =
    steps (λ b said s. at_table s c.in-Table.is) (λ l. record { table_long = search rules; store_long = search rules; part_long = l.part_long }) (c.take_table.ensures _) c.advanced-in-Table.ensures
