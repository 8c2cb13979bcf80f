-- Readers go by nodes, and what they say holds of trees. Assumes nothing.
use Prim.Native.Nat.{ℕ, ◌+◌}
use mathlib.Core.Path.{ap, ◌∙◌}
use mathlib.Core.List.{List, ◌++◌}
use lib.ListN.{length, drop}
use Rattle.shapes.specs.Forms.{Form}
use Rattle.shapes.specs.Stuck.{ended}
use Rattle.source.specs.Nodes.{node}
use Rattle.shapes.specs.Places.{Got, Lost}
use Rattle.source.specs.Trees.{tree}
use Rattle.shapes.proofs.Forms.{fault_same}
use Rattle.source.proofs.Trees.{Into, node_into, node_from}

pub lost_into : (F G : Form) → Into F G → Into G F → (text : List ℕ) (at p : ℕ) → Lost F text at p → Lost G text at p
lost_into F G f g text at p h = record {
  far = h.far;
  place = h.place;
  leaves = fault_same F G (λ x. (f x).0) (λ y. (g y).0) (λ x. (f x).1) (λ y. (g y).1) h.leaves;
}

pub got_into : (F G : Form) (f : Into F G) (text : List ℕ) (at : ℕ) (x : F.Of) (end : ℕ) → Got F text at x end → Got G text at (f x).0 end
got_into F G f text at x end h = record {
  ends = h.ends ∙ ap (λ (u : List ℕ). at + length u) (f x).1;
  reads = h.reads ∙ ap (λ (u : List ℕ). u ++ drop end (ended text)) (f x).1;
}

pub lost_tree : (l : ℕ) (text : List ℕ) (at p : ℕ) → Lost (node l) text at p → Lost (tree l) text at p
lost_tree l text at p h = lost_into (node l) (tree l) (node_into l) (node_from l) text at p h

pub got_tree : (l : ℕ) (text : List ℕ) (at : ℕ) (x : (node l).Of) (end : ℕ) → Got (node l) text at x end → Got (tree l) text at (node_into l x).0 end
got_tree l text at x end h = got_into (node l) (tree l) (node_into l) text at x end h
