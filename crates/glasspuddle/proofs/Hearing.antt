-- Laws of the input that is read piece by piece. Assumes nothing.
use Rattle.std.proofs.Common.{ℕ, ◌≡◌, ◌+◌, ◌<◌, ◌^◌, Bool, true, false, not, Option, None, Some, List, [], ◌++◌, take, drop, refl, sym, ap, ◌∙◌, subst, append_assoc, append-nil, take-append-drop, arith}
use Rattle.std.proofs.lemmas.List.{drop_all}
use Rattle.std.specs.Io.KnownBytes.{Appends, Consumes, Keeps, IsAtEnd}
use Rattle.std.proofs.KnownBytes.{Appends-nil, Appends-trans, Consumes-nil, Consumes-trans, Consumes-kept}
use Rattle.feed.specs.declared.State.{State}
use Rattle.feed.specs.Stands.{reading, Lent, Stands, Standing, Begins}
use Rattle.glasspuddle.specs.Program.{Taken, Heard}
use Rattle.glasspuddle.proofs.Putting.{not_not, written_some, written_more, written_all, written_whole}

-- what was read so far, all of it taken where the program reads on, and its text is written
pub record Hearing (y : State) (table store part : List ℕ) (into into1 out out1 : Option (List ℕ)) : Type 0 where
  pub bytes : List ℕ
  pub rest : List ℕ
  pub read : Consumes into into1 (bytes ++ rest)
  pub all : reading y.stage ≡ true → rest ≡ []
  pub said : List ℕ
  pub stands : Stands bytes y table store part said
  pub written : Appends out out1 said

-- a read of no byte
pub kept_none : (a b : Option (List ℕ)) (n : ℕ) (l : List ℕ) → n ≡ 0 → Consumes a b (take n l) → Keeps a b
kept_none None b n l e c = tt
kept_none (Some x) None n l e c = absurd c
kept_none (Some x) (Some y) n l e c = sym (rw e at c)

split : (bytes rest piece : List ℕ) (used : ℕ) → rest ≡ [] → (bytes ++ rest) ++ piece ≡ (bytes ++ take used piece) ++ drop used piece
split bytes rest piece used none =
    ap (λ (l : List ℕ). (bytes ++ l) ++ piece) none ∙ ap (λ (l : List ℕ). l ++ piece) (append-nil bytes)
    ∙ ap (λ (l : List ℕ). bytes ++ l) (sym (take-append-drop used piece)) ∙ sym (append_assoc bytes (take used piece) (drop used piece))

pub hearing_none : (x : State) (table store part : List ℕ) (into out : Option (List ℕ)) → Begins x → Lent table store part → Hearing x table store part into into out out
hearing_none x table store part into out b l =
    record { bytes = []; rest = []; read = Consumes-nil into; all = λ _. refl; said = []; stands = b table store part l; written = Appends-nil out }

module _ {y : State} {table store part : List ℕ} {into into1 out out1 : Option (List ℕ)} (h : Hearing y table store part into into1 out out1) where
  pub hearing_stands : Standing y table store part
  hearing_stands = record { bytes = h.bytes; said = h.said; stands = h.stands }

  -- the end of it, whether reading failed or not
  pub heard_end : (fine : Bool) (into2 : Option (List ℕ)) → Keeps into1 into2 → (fine ≡ true → reading y.stage ≡ true → y.read + 65536 < 2 ^ 64 → IsAtEnd into2)
      → Heard fine y table store part into into2 out out1
  heard_end fine into2 kept ended =
      record {
        bytes = h.bytes;
        rest = h.rest;
        read = Consumes-kept _ _ _ _ h.read kept;
        ended = λ e f. (h.all f, ended e f);
        said = h.said;
        stands = h.stands;
        written = written_whole fine _ _ h.said h.written;
      }

  consumed :
      (into2 : Option (List ℕ)) (piece : List ℕ) (used : ℕ) → reading y.stage ≡ true → Consumes into1 into2 piece →
      Consumes into into2 ((h.bytes ++ take used piece) ++ drop used piece)
  consumed into2 piece used on got =
      subst (Consumes into into2) (split h.bytes h.rest piece used (h.all on)) (Consumes-trans _ _ _ (h.bytes ++ h.rest) piece h.read got)

  module _
      (on : reading y.stage ≡ true) (into2 : Option (List ℕ)) (piece : List ℕ) (got : Consumes into1 into2 piece)
      {fine : Bool} {z : State} {table1 store1 part1 : List ℕ} {out2 : Option (List ℕ)} (t : Taken fine y table store part piece z table1 store1 part1 out1 out2) where
    pub heard_more : Heard false z table1 store1 part1 into into2 out out2
    heard_more =
        record {
          bytes = h.bytes ++ take t.used piece;
          rest = drop t.used piece;
          read = consumed into2 piece t.used on got;
          ended = λ f. cc;
          said = h.said ++ t.text;
          stands = t.onward h.bytes h.said h.stands;
          written = written_more false _ _ _ h.said t.text h.written (written_some fine _ _ t.text t.written);
        }

    pub hearing_more : not fine ≡ false → Hearing z table1 store1 part1 into into2 out out2
    hearing_more e =
        record {
          bytes = h.bytes ++ take t.used piece;
          rest = drop t.used piece;
          read = consumed into2 piece t.used on got;
          all = λ f. drop_all t.used piece (omega (arith, t.all (not_not fine e) f));
          said = h.said ++ t.text;
          stands = t.onward h.bytes h.said h.stands;
          written = Appends-trans _ _ _ h.said t.text h.written (written_all fine _ _ t.text t.written (not_not fine e));
        }
