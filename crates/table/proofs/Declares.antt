-- The streams' records: what is declared is generated, and what is generated is declared. Their bytes are bytes.
-- Assumes nothing.
use Prim.Native.Nat.{ℕ, zero, suc, ◌+◌, ◌≤◌, ◌<◌}
use native.Mathlib.Omega.{arith}
use mathlib.Core.Path.{◌≡◌, refl, ap, ◌∙◌, subst}
use mathlib.Core.Bool.{Bool, true, false}
use mathlib.Core.List.{List, [], ◌∷◌}
use lib.Dec.{eqb, ltb}
use lib.ListN.{length, get_or}
use borrow.Author.Tests.{lt-ltb, le-ltb, eqb-true, ltb-true, ltb-false}
use Rattle.wire.specs.Bytes.{AllBytes}
use Rattle.wire.proofs.Words.{no_bytes, byte_more}
use Rattle.wire.proofs.Stand.{Stand, more, stand_at, put, byte_at}
use Rattle.wire.proofs.Stand as stand
use Rattle.node.proofs.Faults.{neither, both_fine}
use Rattle.table.specs.Records.{input_fault_of, output_fault_of, side_of, stream_fault_of, role_at, Declared, declares, wrong, before, declared}
use Rattle.table.specs.Generation.{stream_bytes, streams_bytes_of, WellFormedStreams}
use Rattle.table.specs.Generation as g
use Rattle.table.proofs.Faults.{record_there, type_fits, role_fits, no_record_fault, no_type_fault, no_role_fault}
use Rattle.table.proofs.Streams.{fine_case}

module _ (i : ℕ) where
  -- the bytes of an input in front, and of an output
  input_bytes : (v t r : ℕ) (ts rs : List ℕ) → v < i → streams_bytes_of i v (t ∷ ts) (r ∷ rs) ≡ 0x02 ∷ t ∷ streams_bytes_of i (v + 1) ts rs
  unfolding streams_bytes_of stream_bytes
  input_bytes v t r ts rs h = rw (lt-ltb v i h)

  output_bytes : (v t r : ℕ) (ts rs : List ℕ) → i ≤ v → streams_bytes_of i v (t ∷ ts) (r ∷ rs) ≡ 0x03 ∷ t ∷ r ∷ streams_bytes_of i (v + 1) ts rs
  unfolding streams_bytes_of stream_bytes
  output_bytes v t r ts rs h = rw (le-ltb v i h)

  pub streams_small : (v : ℕ) (ts rs : List ℕ) → WellFormedStreams i v ts rs → AllBytes (streams_bytes_of i v ts rs)
  unfolding streams_bytes_of
  streams_small v ts rs g.none = no_bytes
  streams_small v ts rs (g.input {t = t} {ts = us} {rs = ps} h b c) = rw (input_bytes v t 0 us ps h) (byte_more (omega arith) (byte_more (omega arith) (streams_small (v + 1) us ps c)))
  streams_small v ts rs (g.output {t = t} {r = r} {ts = us} {rs = ps} h b b1 f c) =
      rw (output_bytes v t r us ps h) (byte_more (omega arith) (byte_more (omega arith) (byte_more (omega arith) (streams_small (v + 1) us ps c))))

module _ (i : ℕ) (s : List ℕ) where
  -- n streams from v on are generated from a place up to m
  pub record Declares (n v place : ℕ) (ts rs : List ℕ) (m : ℕ) : Type 0 where
    pub formed : WellFormedStreams i v ts rs
    pub count : length ts ≡ n
    pub stand : Stand s place (streams_bytes_of i v ts rs)
    pub end : m ≡ place + length (streams_bytes_of i v ts rs)

  abbrev pub Right : ℕ → ℕ → ℕ → Declared → Type 0
  Right n v place (declares ts rs m) = Declares n v place ts rs m
  Right n v place (wrong why at) = Unit {0}

  module _ (n v place : ℕ) where
    input_more : v < i → input_fault_of s place ≡ 0 → (d : Declared) → Right n (v + 1) (place + 2 + 0) d → Right (suc n) v place (before (get_or s (place + 1) 0 ∷ []) (0 ∷ []) d)
    unfolding input_fault_of
    input_more h f (wrong why at) r = tt
    input_more h f (declares ts rs m) r =
        let z = neither _ _ f in
        let y = record_there s place 2 1 z.0 in
        let e = input_bytes i v (get_or s (place + 1) 0) 0 ts rs h in
        record {
          formed = g.input h (type_fits _ z.1) r.formed;
          count = ap suc r.count;
          stand = rw e (put s place (place + 1) refl (omega (arith, y.1)) y.0 (put s (place + 1) (place + 2 + 0) (omega arith) (omega (arith, y.1)) refl r.stand));
          end = rw e (omega (arith, r.end));
        }

    output_more : i ≤ v → output_fault_of s place ≡ 0 → (d : Declared) → Right n (v + 1) (place + 2 + 1) d → Right (suc n) v place (before (get_or s (place + 1) 0 ∷ []) (get_or s (place + 2) 0 ∷ []) d)
    unfolding output_fault_of
    output_more h f (wrong why at) r = tt
    output_more h f (declares ts rs m) r =
        let z = neither _ _ f in
        let x = neither _ _ z.1 in
        let y = record_there s place 3 2 z.0 in
        let o = role_fits _ _ x.1 in
        let e = output_bytes i v (get_or s (place + 1) 0) (get_or s (place + 2) 0) ts rs h in
        record {
          formed = g.output h (type_fits _ x.0) o.0 o.1 r.formed;
          count = ap suc r.count;
          stand = rw e (put s place (place + 1) refl (omega (arith, y.1)) y.0 (put s (place + 1) (place + 2) (omega arith) (omega (arith, y.1)) refl (put s (place + 2) (place + 2 + 1) refl (omega (arith, y.1)) refl r.stand)));
          end = rw e (omega (arith, r.end));
        }

  one_right : (n v place : ℕ) → ((v place : ℕ) → Right n v place (declared n i v s place)) → (b : Bool) → ltb v i ≡ b → Right (suc n) v place (declared (suc n) i v s place)
  unfolding declared side_of stream_fault_of role_at
  one_right n v place f true p =
      rw p (fine_case (Right (suc n) v place) (eqb (input_fault_of s place) 0) _ _ (λ q. input_more n v place (ltb-true _ _ p) (eqb-true _ _ q) (declared n i (v + 1) s (place + 2 + 0)) (f (v + 1) (place + 2 + 0))) (λ _. tt))
  one_right n v place f false p =
      rw p (fine_case (Right (suc n) v place) (eqb (output_fault_of s place) 0) _ _ (λ q. output_more n v place (ltb-false _ _ p) (eqb-true _ _ q) (declared n i (v + 1) s (place + 2 + 1)) (f (v + 1) (place + 2 + 1))) (λ _. tt))

  pub declared_right : (n v place : ℕ) → Right n v place (declared n i v s place)
  unfolding declared streams_bytes_of
  declared_right zero v place = record { formed = g.none; count = refl; stand = stand.none; end = omega arith }
  declared_right (suc n) v place = one_right n v place (declared_right n) (ltb v i) refl

  -- ---- back

  declared_input : (n v place : ℕ) → v < i → input_fault_of s place ≡ 0 → declared (suc n) i v s place ≡ before (get_or s (place + 1) 0 ∷ []) (0 ∷ []) (declared n i (v + 1) s (place + 2 + 0))
  unfolding declared side_of stream_fault_of role_at
  declared_input n v place h f = rw (lt-ltb v i h, f)

  declared_output : (n v place : ℕ) → i ≤ v → output_fault_of s place ≡ 0 → declared (suc n) i v s place ≡ before (get_or s (place + 1) 0 ∷ []) (get_or s (place + 2) 0 ∷ []) (declared n i (v + 1) s (place + 2 + 1))
  unfolding declared side_of stream_fault_of role_at
  declared_output n v place h f = rw (le-ltb v i h, f)

  input_read : (v place m t : ℕ) (us ps : List ℕ) → v < i → t ≤ 2 → Stand s place (0x02 ∷ t ∷ streams_bytes_of i (v + 1) us ps)
      → (Stand s (place + 2 + 0) (streams_bytes_of i (v + 1) us ps) → declared (length us) i (v + 1) s (place + 2 + 0) ≡ declares us ps m) → declared (suc (length us)) i v s place ≡ declares (t ∷ us) (0 ∷ ps) m
  unfolding input_fault_of
  input_read v place m t us ps h b (more l e (more l1 e1 r)) f =
      let z = f (stand_at s (omega arith) r) in
      let y : get_or s (place + 1) 0 ≤ 2 = omega (arith, e1, b) in
      declared_input (length us) v place h (both_fine _ _ (no_record_fault s place 2 1 e (omega arith)) (no_type_fault _ y)) ∙ rw (e1, z) refl

  output_read : (v place m t o : ℕ) (us ps : List ℕ) → i ≤ v → t ≤ 2 → o ≤ 1 → (o ≡ 1 → t ≡ 0) → Stand s place (0x03 ∷ t ∷ o ∷ streams_bytes_of i (v + 1) us ps)
      → (Stand s (place + 2 + 1) (streams_bytes_of i (v + 1) us ps) → declared (length us) i (v + 1) s (place + 2 + 1) ≡ declares us ps m) → declared (suc (length us)) i v s place ≡ declares (t ∷ us) (o ∷ ps) m
  unfolding output_fault_of
  output_read v place m t o us ps h b b1 k (more l e (more l1 e1 (more l2 e2 r))) f =
      let z = f (stand_at s (omega arith) r) in
      let e3 = byte_at s {j = place + 2} (omega arith) e2 in
      let y : get_or s (place + 1) 0 ≤ 2 = omega (arith, e1, b) in
      declared_output (length us) v place h (both_fine _ _ (no_record_fault s place 3 2 e (omega arith)) (both_fine _ _ (no_type_fault _ y) (rw (e1, e3) (no_role_fault t o b1 k)))) ∙ rw (e1, e3, z) refl

  pub streams_declared : (v place m : ℕ) (ts rs : List ℕ) → WellFormedStreams i v ts rs → Stand s place (streams_bytes_of i v ts rs) → m ≡ place + length (streams_bytes_of i v ts rs) → declared (length ts) i v s place ≡ declares ts rs m
  unfolding declared streams_bytes_of
  streams_declared v place m ts rs g.none r q = ap (declares [] []) (omega arith)
  streams_declared v place m ts rs (g.input {t = t} {ts = us} {rs = ps} h b c) r q =
      let z = input_bytes i v t 0 us ps h in
      input_read v place m t us ps h b (subst (Stand s place) z r) (λ w. streams_declared (v + 1) (place + 2 + 0) m us ps c w (let y = ap length z in omega (arith, y, q)))
  streams_declared v place m ts rs (g.output {t = t} {r = o} {ts = us} {rs = ps} h b b1 f c) r q =
      let z = output_bytes i v t o us ps h in
      output_read v place m t o us ps h b b1 f (subst (Stand s place) z r) (λ w. streams_declared (v + 1) (place + 2 + 1) m us ps c w (let y = ap length z in omega (arith, y, q)))
