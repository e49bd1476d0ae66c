-- The objects of a session, as they open for what was declared.
use Rattle.std.specs.Prelude.{◌≡◌, ℕ, suc, ◌<◌, ◌≤◌, IsTrue, List, slice_get, length, Some}
use Rattle.turn_lock.specs.Passes.{passes_of}
use Rattle.buffer_lock.specs.SharedBuffers.{lock_of}
use Rattle.transitions.specs.Engines.{engine_opening}
use Rattle.odb_lock.specs.declared.shared.SharedOdb.{SharedOdb}
use Rattle.odb_lock.specs.SharedOdbs.{odb_lock_of}
use Rattle.transition_lock.specs.SharedEngines.{engine_lock_of, first_engine}
use Rattle.mid_logger.specs.declared.channel_spec.ChannelSpec.{ChannelSpec}
use Rattle.front_ends.specs.FrontIds.{IsFrontId}
use Rattle.loggers.specs.NewLoggers.{HaveNumbers}
use Rattle.session_setup.specs.declared.declared.BufferDeclared.{BufferDeclared}
use Rattle.session_setup.specs.declared.declared.FrontDeclared.{FrontDeclared}
use Rattle.session_setup.specs.declared.declared.DeclaredLists.{DeclaredLists}
use Rattle.session_objects.specs.declared.objects.SessionBuffer.{SessionBuffer}
use Rattle.session_objects.specs.declared.objects.SessionObjects.{SessionObjects}
use Rattle.session_setup.specs.declared.member.MemberDeclared.{MemberDeclared}
use Rattle.session_setup.specs.DeclaredMembers.{calls_database, caller_count, declared_members, own_buffer}

-- This buffer is the one that was declared, and so many callers share it.
pub record IsBufferOf (declared : BufferDeclared) (count : ℕ) (buffer : SessionBuffer) : Type 0 where
  pub name : buffer.name ≡ declared.name
  pub size : buffer.size ≡ declared.size
  pub callers : passes_of (lock_of buffer.shared) ≡ count

-- The buffers are those that were declared, each at its number.
pub record AreBuffersOf (declared : List BufferDeclared) (callers : ℕ) (buffers : List SessionBuffer) : Type 0 where
  pub many : length buffers ≡ length declared
  pub each : (number : ℕ) → (d : BufferDeclared) → (buffer : SessionBuffer) → slice_get declared number ≡ Some d →
      slice_get buffers number ≡ Some buffer → IsBufferOf d callers buffer

-- The objects are those of a session of these declarations: its buffers, and an engine that is new.
pub record AreObjectsOf (lists : DeclaredLists) (objects : SessionObjects) : Type 0 where
  pub buffers : AreBuffersOf lists.buffers (caller_count lists) objects.buffers.items
  pub engine : first_engine objects.engine ≡ engine_opening
  pub callers : passes_of (engine_lock_of objects.engine) ≡ caller_count lists

-- Each object has so many callers as a session with these members needs, and there is each buffer that one of them calls alone.
pub record HaveCallers {D : Type 0} (lists : DeclaredLists) (objects : SessionObjects) (shared : SharedOdb D) : Type 0 where
  pub engine : passes_of (engine_lock_of objects.engine) ≡ caller_count lists
  pub buffers : (number : ℕ) → (buffer : SessionBuffer) → slice_get objects.buffers.items number ≡ Some buffer →
      passes_of (lock_of buffer.shared) ≡ caller_count lists
  pub database : (client : ℕ) → IsTrue (calls_database (slice_get (declared_members lists) client)) →
      suc client < passes_of (odb_lock_of shared)
  pub main : 0 < passes_of (odb_lock_of shared)
  pub own : (client : ℕ) → (wanted : MemberDeclared) → slice_get (declared_members lists) client ≡ Some wanted →
      (buffer : ℕ) → own_buffer wanted ≡ Some buffer → buffer < length objects.buffers.items

-- each front-end has an id that a front-end's events may have
abbrev pub HaveFrontIds : List FrontDeclared → Type 0
HaveFrontIds fronts = (client : ℕ) → (front : FrontDeclared) → slice_get fronts client ≡ Some front → IsFrontId front.id

-- each channel has one of so many buffers to read
abbrev pub HaveBuffers : List ChannelSpec → (buffers : ℕ) → Type 0
HaveBuffers channels buffers = (place : ℕ) → (channel : ChannelSpec) → slice_get channels place ≡ Some channel → channel.buffer < buffers

-- These members can be had for these objects.
pub record SuitMembers {D : Type 0} (lists : DeclaredLists) (objects : SessionObjects) (shared : SharedOdb D) : Type 0 where
  pub callers : HaveCallers lists objects shared
  pub few : length lists.fronts ≤ 32
  pub few_analyzers : length lists.analyzers ≤ 8
  pub ids : HaveFrontIds lists.fronts
  pub numbers : HaveNumbers lists.channels
  pub read : HaveBuffers lists.channels (length objects.buffers.items)
