-- What the check's functions hold on the way to its answer: the weights of all equations, one row of 32 numbers for each stream.
-- Assumes nothing.
use Rattle.std.specs.Prelude.{ℕ, ◌-◌, ◌≤◌, ◌<◌, ◌≡◌, List, ◌++◌, cond, leb, get_or, replicate}
use Rattle.limits.specs.Limits.{most_streams, most_words}
use Rattle.limits.specs.Refusals.{accepted, over_words}
use Rattle.basis.specs.Rows.{entry}
use Rattle.basis.specs.Sums.{total, most}
use Rattle.records.specs.Kinds.{room_for}
use Rattle.kept.specs.Kept.{Looks, Falls, kept_row}
use Rattle.announce.specs.declared.Checked.{Checked}
use Rattle.announce.specs.Announced.{refusal}
use Rattle.table.specs.Table.{Table, decode, decoded, streams, edges}
use Rattle.table.specs.Answers.{scan_of, padded, starts_of}
use Rattle.table.specs.declared.Scan.{Scan}
use Rattle.walks.specs.Longest.{rise_of, fall_of}

-- the notes of the largest and of the smallest weight of an edge of the table from y to v, in row y at v; 0 where there is none
pub record Weighs (t : Table) (rise fall : List (List ℕ)) : Type 0 where
  pub rises : (y v : ℕ) → y < most_streams → v < most_streams → entry rise y v ≡ rise_of (edges t) y v
  pub falls : (y v : ℕ) → y < most_streams → v < most_streams → entry fall y v ≡ fall_of (edges t) y v

-- the scan is that of a table that these bytes decode to
pub record Scanned (s : List ℕ) (c : Scan) : Type 0 where
  pub table : Table
  pub decodes : decode s ≡ decoded table
  pub scan_is : c ≡ scan_of table

-- what the loop over the equations holds of the table: its scan's arrays and its number of streams
pub record Arrays (s : List ℕ) (t : Table) (types starts : List ℕ) (streams_held : ℕ) : Type 0 where
  pub decodes : decode s ≡ decoded t
  pub types_are : types ≡ padded t.types
  pub starts_are : starts ≡ padded (replicate t.inputs 0 ++ starts_of t.equations)
  pub streams_are : streams_held ≡ streams t

-- the weights of the equations below y are there, the others are 0
pub record WeighsTo (t : Table) (y : ℕ) (rise fall : List (List ℕ)) : Type 0 where
  pub rises : (x v : ℕ) → x < y → v < most_streams → entry rise x v ≡ rise_of (edges t) x v
  pub falls : (x v : ℕ) → x < y → v < most_streams → entry fall x v ≡ fall_of (edges t) x v
  pub no_rise : (x v : ℕ) → y ≤ x → x < most_streams → v < most_streams → entry rise x v ≡ 0
  pub no_fall : (x v : ℕ) → y ≤ x → x < most_streams → v < most_streams → entry fall x v ≡ 0

-- numbers from which kept values can be taken: look-aheads and smallest weights within their bounds
pub record Fitting (c : Scan) (look : List ℕ) (fall : List (List ℕ)) : Type 0 where
  pub few : c.streams ≤ most_streams
  pub outputs : c.inputs ≤ c.streams
  pub roles : (v : ℕ) → v < most_streams → get_or c.roles v 0 ≤ 1
  pub look_small : Looks look
  pub fall_small : Falls fall

-- the announced numbers from a scan, the look-aheads and the smallest weights; refusal 8 where the store words are over 4,096
unfoldable pub numbers_for : Scan → List ℕ → List (List ℕ) → Checked
numbers_for c look fall =
    let kept = kept_row look fall c.streams in
    let words = total (λ v. get_or kept v 0) c.streams in
    cond (leb words most_words)
    (record {
      number = accepted;
      place = 0;
      look = look;
      kept = kept;
      words = words;
      room = room_for (c.streams - c.inputs) (total (λ v. get_or c.roles v 0) c.streams);
      closing = most (λ v. get_or look v 0) c.streams;
    })
    (refusal over_words 0)
