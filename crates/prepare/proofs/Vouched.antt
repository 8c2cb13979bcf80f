-- From numbers that are vouched for to what a call prepares by them.
-- Assumes nothing.
use Prim.Native.Nat.{ℕ, ◌-◌, ◌*◌, ◌≤◌}
use mathlib.Core.Path.{◌≡◌, sym, ap, ◌∙◌}
use mathlib.Core.List.{List}
use native.Mathlib.Omega.{arith}
use lib.ListN.{length, get_or}
use Rattle.basis.specs.Firsts.{of}
use Rattle.basis.specs.Sums.{total, most}
use Rattle.basis.proofs.Sums.{total_same, most_same, total_bound}
use Rattle.limits.specs.Limits.{most_streams}
use Rattle.records.specs.Kinds.{room_for}
use Rattle.table.specs.Table.{Table, streams}
use Rattle.table.specs.Sound.{Sound}
use Rattle.table.proofs.Entries.{padded_at}
use Rattle.table.proofs.Sound.{sound}
use Rattle.announce.specs.declared.Checked.{Checked}
use Rattle.announce.specs.Announced.{look_ahead_of, room_bytes_of, closing_turns_of, acceptance, announced}
use Rattle.vouch.specs.Vouching.{Vouched, Vouches}
use Rattle.prepare.specs.Preparing.{Prepares}
use Rattle.prepare.proofs.Announcing.{look_announced, kept_announced_list, words_announced, closing_announced, certified_accepted}

-- the sum of roles that are 0 or 1
few_triggers : (roles : List ℕ) (n : ℕ) → ((v : ℕ) → get_or roles v 0 ≤ 1) → total (of roles) n ≤ 1 * n
few_triggers roles n h = total_bound (of roles) n 1 (λ v l. h v)

module _ {s look kept : List ℕ} {r : Vouched} (v : Vouches s look kept r) where
  abbrev t : Table
  t = v.table

  fine : Sound s t
  fine = sound s v.decodes

  pub vouched_few : r.streams ≤ most_streams
  vouched_few = omega (arith, fine.few, v.streams_are)

  pub vouched_some : r.inputs ≤ r.streams
  vouched_some = omega (arith, fine.some_output, v.inputs_are, v.streams_are)

  role_at_lem : (u : ℕ) → get_or r.roles u 0 ≡ get_or t.roles u 0
  role_at_lem u = ap (λ (l : List ℕ). get_or l u 0) v.roles_are ∙ padded_at t.roles u

  pub vouched_roles : (u : ℕ) → get_or r.roles u 0 ≤ 1
  vouched_roles u = omega (arith, fine.role_is u, role_at_lem u)

  pub vouched_triggers : total (of r.roles) r.streams ≤ 1 * r.streams
  vouched_triggers = few_triggers r.roles r.streams vouched_roles

  module _ (look_long : length look ≡ most_streams) (kept_long : length kept ≡ most_streams) where
    accepts : announced s ≡ acceptance t
    accepts = certified_accepted s t v.decodes look kept v.certified look_long kept_long

    room_same : room_for (r.streams - r.inputs) (total (of r.roles) r.streams) ≡ room_bytes_of t
    unfolding room_bytes_of
    room_same =
        let all : total (of r.roles) r.streams ≡ total (λ u. get_or t.roles u 0) (streams t) =
        ap (total (of r.roles)) v.streams_are ∙ total_same (of r.roles) (λ u. get_or t.roles u 0) (streams t) (λ u l. role_at_lem u) in
        omega (arith, all, fine.outputs, v.inputs_are, v.streams_are)

    closing_same : most (of look) r.streams ≡ closing_turns_of t
    unfolding closing_turns_of
    closing_same =
        ap (most (of look)) v.streams_are
        ∙ most_same (of look) (look_ahead_of t) (streams t) (closing_announced s t v.decodes look kept v.certified look_long kept_long)

    -- what is prepared by numbers that are vouched for, with the sums taken
    pub prepared : {words room closing : ℕ} → words ≡ total (of kept) r.streams
        → room ≡ room_for (r.streams - r.inputs) (total (of r.roles) r.streams) → closing ≡ most (of look) r.streams
        → Prepares s look kept (record {
          inputs = r.inputs;
          streams = r.streams;
          types = r.types;
          roles = r.roles;
          starts = r.starts;
          order = r.order;
          words = words;
          room = room;
          closing = closing;
        })
    prepared b c d =
        record {
          accepted = ap (λ (x : Checked). x.number) accepts;
          look_is = ap (λ (x : Checked). x.look) accepts ∙ look_announced s t v.decodes look kept v.certified look_long kept_long;
          kept_is = ap (λ (x : Checked). x.kept) accepts ∙ kept_announced_list s t v.decodes look kept v.certified look_long kept_long;
          words_are = b ∙ ap (total (of kept)) v.streams_are ∙ words_announced s t v.decodes look kept v.certified look_long kept_long ∙ sym (ap (λ (x : Checked). x.words) accepts);
          room_is = c ∙ room_same ∙ sym (ap (λ (x : Checked). x.room) accepts);
          closing_is = d ∙ closing_same ∙ sym (ap (λ (x : Checked). x.closing) accepts);
          words_sum = b;
          room_sum = c;
          closing_most = d;
          table = t;
          decodes = v.decodes;
          inputs_are = v.inputs_are;
          streams_are = v.streams_are;
          types_are = v.types_are;
          roles_are = v.roles_are;
          starts_are = v.starts_are;
          ordered = v.ordered;
        }
