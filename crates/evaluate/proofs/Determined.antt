-- A turn determines the store, and does so in whatever order it goes; of its frame it determines what `framed_once` of `store` says.
-- Assumes nothing.
use Prim.Native.Nat.{ℕ}
use mathlib.Core.Path.{◌≡◌, refl, sym, ap, ◌∙◌}
use mathlib.Core.List.{List}
use lib.ListN.{length}
use Rattle.basis.specs.Firsts.{of}
use Rattle.value.specs.declared.Value.{Value}
use Rattle.run.specs.Run.{Plan, store_after}
use Rattle.meaning.specs.Plans.{plan_of}
use Rattle.evaluate.specs.Turns.{Turnable, Turns}

module _ (s types look kept starts : List ℕ) (inputs streams : ℕ) (ws st : List ℕ) (n t : ℕ) where
  abbrev pub plan_by : {order : List ℕ} → Turnable s types look kept starts order inputs streams (length st) → Plan Value ℕ ℕ
  plan_by x = plan_of inputs streams types x.eqs (of look) (of kept) x.closing x.room x.well_formed

  -- two orders that serve one plan leave one store
  pub turns_any_order :
      {order order' : List ℕ} (x : Turnable s types look kept starts order inputs streams (length st)) (y : Turnable s types look kept starts order' inputs streams (length st)) → plan_by x ≡ plan_by y →
      {a b : List ℕ} → Turns s types look kept starts order inputs streams ws st n t a → Turns s types look kept starts order' inputs streams ws st n t b → a ≡ b
  turns_any_order x y e u v = u x ∙ ap (λ (p : Plan Value ℕ ℕ). store_after p n t ws st) e ∙ sym (v y)

  pub turns_once :
      {order : List ℕ} → Turnable s types look kept starts order inputs streams (length st) →
      {a b : List ℕ} → Turns s types look kept starts order inputs streams ws st n t a → Turns s types look kept starts order inputs streams ws st n t b → a ≡ b
  turns_once x = turns_any_order x x refl
