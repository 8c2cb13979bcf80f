-- `evaluate::leaf` meets its contract: each arm of the match gives the node.
-- Assumes nothing.
use mathlib.Core.Path.{ap}
use Prim.Native.Nat.{ℕ, ◌+◌}
use native.Mathlib.Omega.{arith}
use mir.Syntax.{w8}
use mir.Val.{SFits}
use mir.Facts.{to_z-of_z}
use Rattle.node.proofs.Standing.{body_found}
use Rattle.evaluate.proofs.Heads.{standing_at}
use Rattle.evaluate.proofs.Leaves.{now_findable, at_referable, constant_gives, now_gives, at_gives, operator_never}
use Rattle.evaluate.proofs.leaf.Goals as goal

pub bounds-bytes-at : goal.bounds-bytes-at
bounds-bytes-at c = (standing_at c.requires.readable).inside

pub overflow_add-start : goal.overflow_add-start
overflow_add-start c = omega (arith, (standing_at c.requires.readable).inside, c.well_formed)

pub node_of-node-requires : goal.node_of-node-requires
node_of-node-requires c = (standing_at c.requires.readable).body

pub overflow_add-next : goal.overflow_add-next
overflow_add-next c = omega (arith, body_found _ _ _ c.from.ensures c.leaf_body.ensures c.node_of-node.ensures c.requires.leaf, (standing_at c.requires.readable).body, c.well_formed)

pub read-requires : goal.read-requires
read-requires c = rw c.from-in-Now.ensures (now_findable c.requires.readable c.node_of-node.ensures c.in-Now.is)

pub referred-requires : goal.referred-requires
referred-requires c =
    let small : SFits w8 c.in-At.k = record { sfits = omega arith } in
    rw (c.from-in-At.ensures, to_z-of_z small) (at_referable c.requires.readable c.node_of-node.ensures c.in-At.is)

pub returns-in-Constant : goal.returns-in-Constant
returns-in-Constant c = λ l x.
    constant_gives x c.node_of-node.ensures c.args.store.now (ap (λ (k : ℕ). c.args.at + 1 + k) (body_found _ _ _ c.from.ensures c.leaf_body.ensures c.node_of-node.ensures c.requires.leaf)) c.in-Constant.is c.reading.ensures

pub returns-in-Now : goal.returns-in-Now
returns-in-Now c = λ l x.
    now_gives x c.node_of-node.ensures c.args.store.now (ap (λ (k : ℕ). c.args.at + 1 + k) (body_found _ _ _ c.from.ensures c.leaf_body.ensures c.node_of-node.ensures c.requires.leaf)) c.in-Now.is (rw c.from-in-Now.ensures at c.read.ensures)

pub returns-in-At : goal.returns-in-At
returns-in-At c = λ l x.
    let small : SFits w8 c.in-At.k = record { sfits = omega arith } in
    at_gives x c.node_of-node.ensures c.args.store.now (ap (λ (k : ℕ). c.args.at + 1 + k) (body_found _ _ _ c.from.ensures c.leaf_body.ensures c.node_of-node.ensures c.requires.leaf)) c.in-At.is (rw (c.from-in-At.ensures, to_z-of_z small) at c.referred.ensures)

pub returns-in-Operator : goal.returns-in-Operator
returns-in-Operator c = λ l x.
    operator_never x c.node_of-node.ensures c.args.store.now (ap (λ (k : ℕ). c.args.at + 1 + k) (body_found _ _ _ c.from.ensures c.leaf_body.ensures c.node_of-node.ensures c.requires.leaf)) c.requires.leaf c.in-Operator.is
