-- Definitions, each file under a section of document 01 or a part of one.
pub mod Answers
pub mod Lists
pub mod Question
pub mod Sheet
pub mod Accepted
pub mod Tables
pub mod Hypergraph
pub mod EdgeView
pub mod GoodEdge
pub mod Connected
pub mod Edges
pub mod Cost
pub mod Connection
pub mod EstimateOrder
pub mod EstimateBounds
pub mod Walk
pub mod Search
pub mod TwoPasses
pub mod LeafView
pub mod Call
pub mod Kept
pub mod PlanRule
pub mod OpenRule
pub mod TriedList
-- Calls under two visit limits.
pub mod VisitLimits
-- The walk over the edges, as the code makes it.
pub mod EdgeWalk
