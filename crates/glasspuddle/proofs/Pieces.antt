-- Laws of a piece of input that is taken step by step. Assumes nothing.
use Rattle.std.proofs.Common.{ℕ, ◌≡◌, ◌+◌, ◌≤◌, Bool, true, Option, List, [], ◌++◌, length, take, refl, sym, subst, append_assoc, append-nil, arith}
use Rattle.feed.specs.declared.State.{State}
use Rattle.feed.specs.declared.Advance.{Advance}
use Rattle.feed.specs.Stands.{reading, Stands, Standing, Steps}
use Rattle.glasspuddle.specs.Written.{Written}
use Rattle.glasspuddle.specs.Program.{Taken}
use Rattle.glasspuddle.proofs.Putting.{behind, behind_long, behind_more}

-- from where some bytes lead and some text was printed to where they lead with more of both
abbrev pub Leads : (x : State) (table store part : List ℕ) (y : State) (table1 store1 part1 bytes text : List ℕ) → Type 0
Leads x table store part y table1 store1 part1 bytes text =
    (b said : List ℕ) → Stands b x table store part said → Stands (b ++ bytes) y table1 store1 part1 (said ++ text)

pub leads_nowhere : (x : State) (table store part : List ℕ) → Leads x table store part x table store part [] []
leads_nowhere x table store part b said s =
    subst (λ (l : List ℕ). Stands l x table store part (said ++ [])) (sym (append-nil b)) (subst (λ (l : List ℕ). Stands b x table store part l) (sym (append-nil said)) s)

pub leads_on :
    (x : State) (table store part : List ℕ) (y : State) (table1 store1 part1 : List ℕ) (z : State) (table2 store2 part2 : List ℕ) (bytes text bytes1 text1 : List ℕ) →
    Leads x table store part y table1 store1 part1 bytes text → Leads y table1 store1 part1 z table2 store2 part2 bytes1 text1 →
    Leads x table store part z table2 store2 part2 (bytes ++ bytes1) (text ++ text1)
leads_on x table store part y table1 store1 part1 z table2 store2 part2 bytes text bytes1 text1 f g b said s =
    subst (λ (l : List ℕ). Stands l z table2 store2 part2 (said ++ (text ++ text1))) (append_assoc b bytes bytes1)
    (subst (λ (l : List ℕ). Stands ((b ++ bytes) ++ bytes1) z table2 store2 part2 l) (append_assoc said text text1) (g (b ++ bytes) (said ++ text) (f b said s)))

-- some bytes of the piece have been taken, and gave a text
pub record Moved (x : State) (table store part piece : List ℕ) (y : State) (table1 store1 part1 : List ℕ) (used : ℕ) (text : List ℕ) : Type 0 where
  pub within : used ≤ length piece
  pub read_is : y.read ≡ x.read + used
  pub unmoved : used ≡ 0 → y.stage ≡ x.stage
  pub onward : Leads x table store part y table1 store1 part1 (take used piece) text

pub moved_none : (x : State) (table store part piece : List ℕ) → Moved x table store part piece x table store part 0 []
moved_none x table store part piece =
    record { within = omega arith; read_is = omega arith; unmoved = λ _. refl; onward = leads_nowhere x table store part }

module _ {x : State} {table store part piece : List ℕ} {y : State} {table1 store1 part1 : List ℕ} {used : ℕ} {text : List ℕ} (m : Moved x table store part piece y table1 store1 part1 used text) where
  pub moved_more : (r : Advance) (table2 store2 part2 text2 : List ℕ) → Steps y table1 store1 part1 (behind piece used) r table2 store2 part2 text2
      → Moved x table store part piece r.state table2 store2 part2 (used + r.used) (text ++ take r.at text2)
  moved_more r table2 store2 part2 text2 s =
      record {
        within = omega (arith, behind_long piece used, s.within, m.within);
        read_is = omega (arith, s.read_is, m.read_is);
        unmoved = λ e. absurd (omega (arith, s.some, e));
        onward = subst (λ (l : List ℕ). Leads x table store part r.state table2 store2 part2 l (text ++ take r.at text2)) (behind_more piece used r.used)
            (leads_on x table store part y table1 store1 part1 r.state table2 store2 part2 (take used piece) text (take r.used (behind piece used)) (take r.at text2) m.onward s.onward);
      }

  pub moved_stands : Standing x table store part → Standing y table1 store1 part1
  moved_stands s =
      record { bytes = s.bytes ++ take used piece; said = s.said ++ text; stands = m.onward s.bytes s.said s.stands }

  pub moved_taken : (fine : Bool) (out out1 : Option (List ℕ)) → Written fine out out1 text → (fine ≡ true → reading y.stage ≡ true → used ≡ length piece)
      → Taken fine x table store part piece y table1 store1 part1 out out1
  moved_taken fine out out1 w all = record { used = used; within = m.within; all = all; text = text; onward = m.onward; written = w }
