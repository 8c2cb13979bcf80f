-- What is given on a turn determines the output and the count (document 01, "What the contracts must exclude"). Assumes nothing.
use Prim.Native.Nat.{ℕ}
use mathlib.Core.Path.{◌≡◌, sym, ◌∙◌}
use mathlib.Core.List.{List}
use Rattle.store.specs.declared.Frame.{Frame}
use Rattle.store.specs.Store.{Framed}
use Rattle.output.specs.Encoding.{Emitted, Emits}

pub emitted_once : {bytes before a b : List ℕ} {m n : ℕ} → Emitted bytes before a m → Emitted bytes before b n → (a ≡ b) × (m ≡ n)
emitted_once u v = (u.written ∙ sym v.written, u.counted ∙ sym v.counted)

-- `emit`, whatever its frame has where laying it leaves that open
module _ (roles types look kept st : List ℕ) (known t inputs streams : ℕ) {frame frame' : Frame} (f : Framed types look kept streams known t frame) (g : Framed types look kept streams known t frame') where
  pub emits_once :
      {before a b : List ℕ} {m n : ℕ} → Emits roles look frame st known t inputs streams before a m → Emits roles look frame' st known t inputs streams before b n → (a ≡ b) × (m ≡ n)
  emits_once u v = emitted_once (u types kept f) (v types kept g)
