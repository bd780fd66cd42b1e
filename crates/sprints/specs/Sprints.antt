-- Blocks carried out one after another, on one code page.
-- Assumes nothing.
use Rattle.std.specs.Prelude.{ℕ, ◌+◌, ◌%◌, ◌≤◌, ◌≡◌, true, List, length}
use Rattle.machine.specs.declared.Control.{Control}
use Rattle.machine.specs.Record.{Mem}
use Rattle.keptpages.specs.declared.Kept.{Kept}
use Rattle.blocks.specs.Blocks.{Keyed}
use Rattle.hops.specs.declared.Rest.{Rest}
use Rattle.hops.specs.Hops.{keeps, PagesOk, RushOk}
use Rattle.strides.specs.Strides.{Stands}
use Rattle.sprints.specs.declared.Traced.{Traced}

-- the run stands at r with room for a block, which is at place s of the table
pub record Before (m : Mem) (c : Control) (h : Kept) (d g : List ℕ) (r : Rest) (s : ℕ) : Type 0 where
  pub stands : Stands m c h d r
  pub even : h.base % 4096 ≡ 0
  pub wide : r.eip % 4096 ≤ 4032
  pub within : s + 32 ≤ 4096
  pub whole : s % 32 ≡ 0
  pub keyed : Keyed m (h.base + r.eip % 4096) g s

-- that many quick steps were made; and the pages that are kept stay, if the last step leaves them
pub record TracedOk (m : Mem) (e : List ℕ) (c : Control) (r : Rest) (h : Kept) (d : List ℕ) (m' : Mem) (e' : List ℕ) (w : Traced) : Type 0 where
  pub rushed : RushOk m e c r w.count m' e' w.rest
  pub size : length m' ≡ length m
  pub kept : keeps w.ending ≡ true → PagesOk m' c h d
