-- What the check announces of a table's bytes, as it is computed (document 01, "What the check announces" and "Refusal numbers").
-- `Conditions` says the same in the document's words. Assumes nothing.
use Rattle.std.specs.Prelude.{ℕ, cond, List, leb, ltb, length, get_or, replicate, Result, Ok, Err}
use Rattle.limits.specs.Limits.{most_streams, most_words}
use Rattle.limits.specs.Refusals.{accepted, wrong_loop, over_words}
use Rattle.limits.specs.declared.Refusal.{Refusal}
use Rattle.limits.specs.Faults.{number_for}
use Rattle.basis.specs.Sums.{total, most}
use Rattle.records.specs.Kinds.{room_for}
use Rattle.table.specs.Table.{Table, Decoded, decoded, refused, decode, streams, edges}
use Rattle.walks.specs.Longest.{Best, square_for, through, look_of, loops_below_of, place_of, kept_from}
use Rattle.basis.specs.Firsts.{firsts}
use Rattle.announce.specs.declared.Checked.{Checked}
use Rattle.announce.specs.declared.Announced.{Announced}

-- "The longest walks between all pairs of streams"
abbrev pub longest : Table → ℕ → ℕ → Best
longest t = through (square_for (edges t)) (streams t)

-- "Look-ahead of v: the largest total of a walk from v, the empty walk (0) included"; 0 past S
unfoldable pub look_ahead_of : Table → ℕ → ℕ
look_ahead_of t v = look_of (longest t) (streams t) v

-- "Kept values of v: 1 plus the largest of 0 and, over every edge of weight k from some y to v, look-ahead(y) - k - look-ahead(v)"; 0 past S
unfoldable pub kept_values_of : Table → ℕ → ℕ
kept_values_of t v = cond (ltb v (streams t)) (kept_from (edges t) (look_ahead_of t) v) 0

-- "Store words: the sum of kept values"
unfoldable pub store_words : Table → ℕ
store_words t = total (kept_values_of t) (streams t)

-- "Room: 10 bytes for each output and 6 for each trigger"; a trigger's role is 1, every other stream's 0
unfoldable pub room_bytes_of : Table → ℕ
room_bytes_of t = room_for (length t.equations) (total (λ v. get_or t.roles v 0) (streams t))

-- "Closing turns: the largest look-ahead"
unfoldable pub closing_turns_of : Table → ℕ
closing_turns_of t = most (look_ahead_of t) (streams t)

-- "the check announces zeros" where it refuses
abbrev pub refusal : ℕ → ℕ → Checked
refusal n p = record { number = n; place = p; look = replicate most_streams 0; kept = replicate most_streams 0; words = 0; room = 0; closing = 0 }

abbrev pub acceptance : Table → Checked
acceptance t =
    record {
      number = accepted;
      place = 0;
      look = firsts (look_ahead_of t) most_streams;
      kept = firsts (kept_values_of t) most_streams;
      words = store_words t;
      room = room_bytes_of t;
      closing = closing_turns_of t;
    }

-- refusals 7 and 8: "After it [the scan] come 9, 7, 8", "store at most 4,096 words"
unfoldable pub weigh_table : Table → Checked
weigh_table t =
    cond (loops_below_of (longest t) (streams t))
    (cond (leb (store_words t) most_words) (acceptance t) (refusal over_words 0))
    (refusal wrong_loop (place_of (square_for (edges t)) (streams t)))

abbrev pub after_scan : Decoded → Checked
after_scan (decoded t) = weigh_table t
after_scan (refused n p) = refusal n p

unfoldable pub announced : List ℕ → Checked
announced s = after_scan (decode s)

-- what the check of a table answers, by document 01's numbers: "An accepted call answers number 0 and place 0."
abbrev pub checked_as : Result Announced Refusal → Checked
checked_as (Ok a) = record { number = accepted; place = 0; look = a.look; kept = a.kept; words = a.words; room = a.room; closing = a.closing }
checked_as (Err r) = refusal (number_for r.fault) r.place
