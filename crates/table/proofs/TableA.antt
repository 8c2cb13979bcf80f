-- Table A of document 01: the grammar generates its bytes from what its text says.
-- Assumes nothing.
use Prim.Native.Nat.{ℕ, ◌+◌, ◌<◌, ◌^◌}
use native.Mathlib.Omega.{arith}
use mathlib.Core.Path.{◌≡◌, refl, ap}
use lib.IntN.{ℤ, pos, negsuc}
use Rattle.basis.specs.Parts.{up, down}
use Rattle.wire.specs.Bytes.{le4}
use Rattle.node.specs.declared.Node.TheVariants.{Now, At}
use Rattle.expression.specs.Syntax.{leaf}
use Rattle.expression.specs.Generation.{WellFormed, signed_byte_of, constant_bytes, node_bytes, expression_bytes}
use Rattle.expression.specs.Generation as expression
use Rattle.table.specs.Generation.{stream_bytes, streams_bytes_of, equations_bytes_of, bytes_of, Generated}
use Rattle.table.specs.Generation as table
use Rattle.table.specs.TableA.{table_a, tree_a}

-- it keeps to the rules, and the 36 bytes are its own
pub table_a_generated : Generated table_a tree_a
unfolding table_a signed_byte_of constant_bytes node_bytes expression_bytes le4 stream_bytes streams_bytes_of equations_bytes_of bytes_of
table_a_generated = record {
  rules = record {
    first_edition = refl;
    some_input = omega arith;
    some_output = omega arith;
    all = refl;
    few = omega arith;
    formed_streams =
        table.input {v = 0} {t = 1} (omega arith) (omega arith)
        (table.output {v = 1} {t = 1} {r = 0} (omega arith) (omega arith) (omega arith) (λ e. absurd (omega arith))
        (table.output {v = 2} {t = 0} {r = 1} (omega arith) (omega arith) (omega arith) (λ _. refl) table.none));
    formed_equations =
        table.more refl (expression.two expression.sub_words now_0 (at_0 (negsuc 0) 0 (omega arith) (omega arith)))
        (table.more refl (expression.two expression.ahead now_0 (at_0 (pos 1) 7 (omega arith) (omega arith))) table.none);
    size = omega arith;
  };
  bytes = refl;
}
  where
    now_0 : WellFormed tree_a.types 15 1 (leaf (Now 0))
    now_0 = expression.now {v = 0} (omega arith) refl

    -- an offset of 1 or -1
    at_0 : (k : ℤ) (d : ℕ) → up k + down k ≡ 1 → d < 2 ^ 32 → WellFormed tree_a.types 15 1 (leaf (At 0 k d))
    at_0 k d r h =
        expression.at {v = 0} {d = d} {k = k} (omega arith) refl (record { ahead = omega arith; back = omega arith }) (λ e. let z : up k + down k ≡ 0 = ap (λ (k : ℤ). up k + down k) e in omega (arith, z, r)) h (λ e. absurd (omega arith))
