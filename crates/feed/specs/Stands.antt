-- How far the program has come with the bytes read so far (document 01, "The program"), as its state and the lent slices hold it, and what
-- it has printed of them. Assumes nothing.
use Rattle.std.specs.Prelude.{ℕ, suc, ◌+◌, ◌*◌, ◌-◌, ◌≤◌, ◌<◌, ◌≡◌, Bool, true, false, List, [], ◌++◌, length, take, Option, Some, None}
use Rattle.limits.specs.Limits.{most_table, most_streams, most_words}
use Rattle.wire.specs.Bytes.{AllBytes}
use Rattle.announce.specs.Announced.{announced}
use Rattle.prepare.specs.PlanFor.{table_for}
use Rattle.monitor.specs.declared.Run.{Run}
use Rattle.monitor.specs.Refusals.{is_draining_of}
use Rattle.monitor.specs.Calls.{open_call, close_call}
use Rattle.answers.specs.Rows.{Progress, begun, after_rows, after_drains}
use Rattle.feed.specs.Head.{Stopped, Table as Tabled}
use Rattle.feed.specs.declared.Stage.{Stage}
use Rattle.feed.specs.declared.Stage.TheVariants.{Head, Table, Rows, Shut}
use Rattle.feed.specs.declared.State.{State}
use Rattle.feed.specs.declared.Advance.{Advance}
use Rattle.feed.specs.declared.Moved.{Moved}
use Rattle.feed.specs.declared.Turning.{Turning}
use Rattle.feed.specs.declared.Ended.{Ended}
use Rattle.feed.specs.Head.{head_size, input_head}
use Rattle.feed.specs.Printed.{row_size, part_line, printed}

-- the bytes in which a part row is held, or the head
abbrev pub most_part : ℕ
most_part = 4 * most_streams

-- in the head: its bytes are held, and say nothing yet
pub record AtHead (b part : List ℕ) (have : ℕ) (said : List ℕ) : Type 0 where
  pub short : have < head_size
  pub undecided : input_head b ≡ Stopped
  pub held : take have part ≡ b
  pub counted : length b ≡ have
  pub silent : said ≡ []

-- in the table, of n bytes: those behind the head are held
pub record AtTable (b table : List ℕ) (n have : ℕ) (said : List ℕ) : Type 0 where
  pub head : List ℕ
  pub head_long : length head ≡ head_size
  pub head_is : input_head head ≡ Tabled n
  pub short : have < n
  pub bytes_are : b ≡ head ++ take have table
  pub counted : length (take have table) ≡ have
  pub silent : said ≡ []

-- behind the whole table of n bytes, which is accepted and was opened on a store: `part` are the bytes behind the last whole row, x is how
-- far the rows before them have led
pub record Behind (b table : List ℕ) (n : ℕ) (part : List ℕ) (x : Progress) : Type 0 where
  pub head : List ℕ
  pub head_long : length head ≡ head_size
  pub head_is : input_head head ≡ Tabled n
  pub table_long : length (take n table) ≡ n
  pub accepted : (announced (take n table)).number ≡ 0
  pub store : List ℕ
  pub store_long : length store ≡ most_words
  pub rows : List ℕ
  pub count : ℕ
  pub rows_long : length rows ≡ count * row_size (table_for (take n table))
  pub part_short : length part < row_size (table_for (take n table))
  pub bytes_are : b ≡ head ++ (take n table ++ (rows ++ part))
  pub come_is : x ≡ after_rows (take n table) rows (table_for (take n table)).inputs count (begun (open_call (take n table) store).answer.run (open_call (take n table) store).store)

-- how far a run has come, by what holds it
abbrev pub come : Run → (store said : List ℕ) → Progress
come run store said = record { run = run; store = store; text = said }

-- in the rows of a table of n bytes: the bytes of a part row are held
pub record AtRows (b : List ℕ) (run : Run) (table store part : List ℕ) (n have : ℕ) (said : List ℕ) : Type 0 where
  pub behind : Behind b table n (take have part) (come run store said)
  pub counted : length (take have part) ≡ have

-- "End of input closes"; "A part row gives `s n`, then closing goes on"
abbrev pub closed_with : (s : List ℕ) (n left : ℕ) → Progress → Progress
closed_with s n left x = come (close_call s x.run).answer.run x.store (x.text ++ part_line left n)

-- in the closing turns of such a table
pub record AtClosing (b : List ℕ) (run : Run) (table store : List ℕ) (n : ℕ) (said : List ℕ) : Type 0 where
  pub part : List ℕ
  pub before : Progress
  pub behind : Behind b table n part before
  pub turns : ℕ
  pub draining : (i : ℕ) → i < turns → is_draining_of (after_drains (take n table) i (closed_with (take n table) (length b) (length part) before)).run.phase ≡ true
  pub come_is : come run store said ≡ after_drains (take n table) turns (closed_with (take n table) (length b) (length part) before)

-- where the program is while it reads. Refused in the head or the table, it has printed all that it prints, whatever input goes on.
abbrev pub StandsAt : Stage → (b table store part said : List ℕ) → Type 0
StandsAt (Head have) b table store part said = AtHead b part have said
StandsAt (Table n have) b table store part said = AtTable b table n have said
StandsAt (Rows n have run) b table store part said = AtRows b run table store part n have said
StandsAt Shut b table store part said = (more : List ℕ) → printed (b ++ more) ≡ said

-- whether the program reads on
unfoldable pub reading : Stage → Bool
reading (Head have) = true
reading (Table n have) = true
reading (Rows n have run) = true
reading Shut = false

-- the slices lent to the program's state
pub record Lent (table store part : List ℕ) : Type 0 where
  pub table_long : length table ≡ most_table
  pub store_long : length store ≡ most_words
  pub part_long : length part ≡ most_part

-- having read b the program's state is x, over these slices, and it has printed `said`
pub record Stands (b : List ℕ) (x : State) (table store part said : List ℕ) : Type 0 where
  pub read_is : x.read ≡ length b
  pub lent : Lent table store part
  pub at : StandsAt x.stage b table store part said

-- the state is one that some bytes lead to
pub record Standing (x : State) (table store part : List ℕ) : Type 0 where
  pub bytes : List ℕ
  pub said : List ℕ
  pub stands : Stands bytes x table store part said

-- behind the end of the input b: nothing is left, and all is printed; else closing turns or the last line are left
pub record Ends (b : List ℕ) (x : Option Turning) (table store said : List ℕ) : Type 0 where
  pub over : x ≡ None → AllBytes b → printed b ≡ said
  pub closing : {c : Turning} → x ≡ Some c → AtClosing b c.run table store c.size said

-- what is left, or that nothing is, is what some bytes lead to behind their end
pub record Closing (x : Option Turning) (table store : List ℕ) : Type 0 where
  pub bytes : List ℕ
  pub said : List ℕ
  pub ends : Ends bytes x table store said

-- the closing turns are those that some bytes lead to
pub record Unfinished (c : Turning) (table store : List ℕ) : Type 0 where
  pub bytes : List ℕ
  pub said : List ℕ
  pub at : AtClosing bytes c.run table store c.size said

-- ---- what the functions promise

-- the first n bytes of a piece were put behind the bytes held before
pub record Held (before : List ℕ) (have : ℕ) (piece : List ℕ) (n : ℕ) (after : List ℕ) : Type 0 where
  pub within : n ≤ length piece
  pub held : take (have + n) after ≡ take have before ++ take n piece

abbrev pub advanced_to : (read : ℕ) → Moved → Advance
advanced_to read m = record { state = record { stage = m.stage; read = read + m.used }; used = m.used; at = m.at }

-- before the first byte, over whatever stands in the slices lent
abbrev pub Begins : State → Type 0
Begins x = (table store part : List ℕ) → Lent table store part → Stands [] x table store part []

-- what holds of the bytes read and the text printed goes on from P to Q: with one byte of the piece at least, and the text's first bytes
pub record Moves (P Q : (b said : List ℕ) → Type 0) (piece : List ℕ) (m : Moved) (text : List ℕ) : Type 0 where
  pub some : 0 < m.used
  pub within : m.used ≤ length piece
  pub fits : m.at ≤ length text
  pub onward : (b said : List ℕ) → P b said → Q (b ++ take m.used piece) (said ++ take m.at text)

-- from the head, the table or the rows to whatever stage follows
abbrev pub FromHead : (part : List ℕ) (have : ℕ) (piece : List ℕ) → Moved → (part1 text1 : List ℕ) → Type 0
FromHead part have piece m part1 text1 = (table store : List ℕ) → Moves (λ b said. AtHead b part have said) (λ b said. StandsAt m.stage b table store part1 said) piece m text1

abbrev pub FromTable : (table : List ℕ) (n have : ℕ) (piece : List ℕ) → Moved → (table1 store1 text1 : List ℕ) → Type 0
FromTable table n have piece m table1 store1 text1 = (part : List ℕ) → Moves (λ b said. AtTable b table n have said) (λ b said. StandsAt m.stage b table1 store1 part said) piece m text1

abbrev pub FromRows : Run → (table store part : List ℕ) (n have : ℕ) (piece : List ℕ) → Moved → (store1 part1 text1 : List ℕ) → Type 0
FromRows run table store part n have piece m store1 part1 text1 =
    Moves (λ b said. AtRows b run table store part n have said) (λ b said. StandsAt m.stage b table store1 part1 said) piece m text1

-- a step from any stage, which counts the bytes that it takes
pub record Steps (x : State) (table store part piece : List ℕ) (r : Advance) (table1 store1 part1 text1 : List ℕ) : Type 0 where
  pub some : 0 < r.used
  pub within : r.used ≤ length piece
  pub fits : r.at ≤ length text1
  pub read_is : r.state.read ≡ x.read + r.used
  pub onward : (b said : List ℕ) → Stands b x table store part said → Stands (b ++ take r.used piece) r.state table1 store1 part1 (said ++ take r.at text1)

-- what is printed behind the input's end leads from P to Q
pub record Prints (P Q : (b said : List ℕ) → Type 0) (at : ℕ) (text : List ℕ) : Type 0 where
  pub fits : at ≤ length text
  pub onward : (b said : List ℕ) → P b said → Q b (said ++ take at text)

-- the input ends, in whatever stage
pub record EndsIn (x : State) (table : List ℕ) (r : Ended) (text1 : List ℕ) : Type 0 where
  pub prints : (store part : List ℕ) → Prints (λ b said. Stands b x table store part said) (λ b said. Ends b r.left table store said) r.at text1
  -- where nothing is read further nothing is printed
  pub shut : reading x.stage ≡ false → (r.left ≡ None) × (r.at ≡ 0)

-- the rows stop
abbrev pub Closes : Run → (read n have : ℕ) (table : List ℕ) → Ended → (text1 : List ℕ) → Type 0
Closes run read n have table r text1 =
    (store part : List ℕ) → Prints (λ b said. AtRows b run table store part n have said × (read ≡ length b)) (λ b said. Ends b r.left table store said) r.at text1

-- how many pieces of text can still come, at most: one for each closing turn, and the last line
abbrev pub to_come : (table : List ℕ) → Option Turning → ℕ
to_come table None = 0
to_come table (Some c) = suc ((announced (take c.size table)).closing - c.run.done)

-- closing turns, one at least, or the last line
pub record Finishes (c : Turning) (table store : List ℕ) (r : Ended) (store1 text1 : List ℕ) : Type 0 where
  pub prints : Prints (λ b said. AtClosing b c.run table store c.size said) (λ b said. Ends b r.left table store1 said) r.at text1
  pub falls : to_come table r.left < to_come table (Some c)
