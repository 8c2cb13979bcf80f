-- An accepted table has a record 01, and the I and O in it are those of at most 32 streams (document 01, "Numbers").
-- Assumes nothing.
use mathlib.Core.Path.{◌≡◌}
use mathlib.Core.Logic.{⊎_elim}
use mathlib.Core.List.{List}
use Prim.Native.Nat.{ℕ, ◌+◌, ◌≤◌, ◌<◌}
use native.Mathlib.Omega.{arith}
use lib.ListN.{length, get_or, get_or-eq_default}
use Rattle.basis.proofs.Tests.{lt_or_ge}
use Rattle.table.specs.Records.{Declared, declares, wrong, heads}
use Rattle.table.specs.Table.{Table, decoded, decode, with_heads_of, table_of}
use Rattle.table.proofs.Faults.{HeadFits}
use Rattle.table.proofs.Streams.{Headed, heads_fit}
use Rattle.announce.specs.Announced.{announced}
use Rattle.announce.proofs.Acceptance.{accepted_decodes}

module _ (s : List ℕ) where
  headed : (d : Declared) → Headed s d → {t : Table} → with_heads_of d (λ ts rs n. table_of s ts rs n) ≡ decoded t → HeadFits s
  headed (declares ts rs n) f e = f.head
  headed (wrong why place) f e = let z : ◌≡◌ {A = ℕ} 0 1 = cc in absurd (omega arith)

  decoded_head : {t : Table} → decode s ≡ decoded t → HeadFits s
  unfolding decode
  decoded_head e = headed (heads s) (heads_fit s) e

  -- a byte that is not 0 stands in the table
  stands : (i : ℕ) → 1 ≤ get_or s i 0 → i < length s
  stands i h = ⊎_elim (λ l. l) (λ g. absurd (omega (arith, get_or-eq_default s 0 g))) (lt_or_ge i (length s))

  pub accepted_head : (announced s).number ≡ 0 → (4 ≤ length s) × (get_or s 2 0 + get_or s 3 0 ≤ 32)
  accepted_head e = let f = decoded_head (accepted_decodes s e).decodes in (stands 3 f.some_output, f.few)
