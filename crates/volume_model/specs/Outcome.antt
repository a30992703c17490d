-- The outcome of a run: its opened writers and its recoveries.
use Rattle.std.specs.Prelude.{ℕ, suc, ◌&&◌, nat_lt, List}
use Rattle.volume_model.specs.Lists.{each_below}
use Rattle.volume_model.specs.Redo.{Redo}
use Rattle.volume_model.specs.Lineage.{Lineage, last_cut, last_start}
use Rattle.volume_model.specs.Client.{Client, is_open, has_cut}
use Rattle.volume_model.specs.ClientPoints.{durable_point}
use Rattle.volume_model.specs.World.{World}

-- an opened writer: its volume epoch, the start of its own records, its log newest first, its durable point
pub record Opened : Type 0 where
  pub volume : ℕ
  pub start : ℕ
  pub log : List Redo
  pub durable : ℕ

-- a recovery that has cut: its volume epoch, the log found newest first, its cut, its lineage
pub record Find : Type 0 where
  pub volume : ℕ
  pub found : List Redo
  pub cut : ℕ
  pub lineage : Lineage

-- the outcome of a client as a writer
abbrev pub opened_client : ℕ → Client → Opened
opened_client volume client = record {
  volume = volume;
  start = last_start client.lineage;
  log = client.log;
  durable =
      durable_point client;
}

-- the outcome of a client as a recovery that has cut
abbrev pub found_client : ℕ → Client → Find
found_client volume client = record {
  volume = volume;
  found = client.found;
  cut = last_cut client.lineage;
  lineage =
      client.lineage;
}

-- the opened writers, in growing volume epoch
abbrev pub writers_in : World → List Opened
writers_in world =
    each_below (suc world.authority.last_volume) (λ volume. is_open (world.clients volume).stage)
    (λ volume. opened_client volume (world.clients volume))

-- the recoveries that have cut, in growing volume epoch. Writer 1 is born open and finds nothing
abbrev pub finds_in : World → List Find
finds_in world =
    each_below (suc world.authority.last_volume) (λ volume. nat_lt 1 volume && has_cut (world.clients volume).stage)
    (λ volume. found_client volume (world.clients volume))
